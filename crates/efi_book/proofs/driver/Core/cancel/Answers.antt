use Rattle.efi_book.proofs.Causes.{refused-by_first}
use Rattle.efi_book.proofs.driver.Core.cancel.Goals as goal

pub returns-in-Err-clause-answer : goal.returns-in-Err-clause-answer
returns-in-Err-clause-answer g c = rw c.in-Some.is (refused-by_first _ _ _ _ _ c.in-Err.ensures.answer)
