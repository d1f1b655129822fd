use Rattle.efi_book.specs.Drivers.{driver_stops}
use Rattle.efi_book.proofs.laws.a_drivers_stop_ends_the_childs_alone.Goals as goal

pub returns : goal.returns
returns g c = driver_stops
