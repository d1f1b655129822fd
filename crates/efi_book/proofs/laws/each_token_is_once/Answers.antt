use Rattle.efi_book.specs.ActLaws.{each_once}
use Rattle.efi_book.proofs.laws.each_token_is_once.Goals as goal

pub returns : goal.returns
returns g c = each_once
