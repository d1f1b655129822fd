use Rattle.efi_book.specs.Calls.{calls_are_acts}
use Rattle.efi_book.proofs.laws.calls_are_acts_of_the_book.Goals as goal

pub returns : goal.returns
returns g c = calls_are_acts
