use Rattle.efi_book.specs.Drivers.{driver_once}
use Rattle.efi_book.proofs.laws.a_drivers_token_is_once.Goals as goal

pub returns : goal.returns
returns g c = driver_once
