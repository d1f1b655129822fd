use Rattle.efi_book.specs.Others.{no_others}
use Rattle.efi_book.proofs.laws.nothing_else_aborts.Goals as goal

pub returns : goal.returns
returns g c = no_others
