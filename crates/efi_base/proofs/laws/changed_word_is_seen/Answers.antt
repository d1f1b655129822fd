use Rattle.efi_base.proofs.Filling.{changed-word}
use Rattle.efi_base.proofs.laws.changed_word_is_seen.Goals as goal

pub returns : goal.returns
returns c = changed-word
