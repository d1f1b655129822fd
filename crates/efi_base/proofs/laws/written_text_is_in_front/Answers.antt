use Rattle.efi_base.proofs.Written.{written-front}
use Rattle.efi_base.proofs.laws.written_text_is_in_front.Goals as goal

pub returns : goal.returns
returns c = written-front
