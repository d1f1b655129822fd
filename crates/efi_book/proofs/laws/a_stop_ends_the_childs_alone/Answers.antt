use Rattle.efi_book.specs.Aborts.{stops}
use Rattle.efi_book.proofs.laws.a_stop_ends_the_childs_alone.Goals as goal

pub returns : goal.returns
returns g c = stops
