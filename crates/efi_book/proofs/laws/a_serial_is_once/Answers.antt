use Rattle.efi_book.proofs.Numbered.{given_once, borne_once}
use Rattle.efi_book.proofs.laws.a_serial_is_once.Goals as goal

pub returns : goal.returns
returns g c = record { given = given_once; borne = borne_once }
