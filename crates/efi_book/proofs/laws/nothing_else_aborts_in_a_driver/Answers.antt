use Rattle.efi_book.specs.Drivers.{driver_others}
use Rattle.efi_book.proofs.laws.nothing_else_aborts_in_a_driver.Goals as goal

pub returns : goal.returns
returns g c = driver_others
