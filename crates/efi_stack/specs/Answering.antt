-- How a call is answered.
use Rattle.std.specs.Prelude.{◌≡◌, ⊤, ℕ, Option, Some, None, Result, Ok, Err}
use Rattle.efi_base.specs.declared.refuse.Refuse.{Refuse}
use Rattle.efi_base.specs.declared.refuse.Refuse.TheVariants.{OutOfResources}
use Rattle.efi_base.specs.declared.tokens.TokenId.{TokenId}
use Rattle.efi_base.specs.declared.tokens.Owner.{Owner}
use Rattle.efi_base.specs.declared.tokens.Owner.TheVariants.{User}
use Rattle.efi_book.specs.Owners.{counts}
use Rattle.efi_stack.specs.declared.any.AnyWork.{AnyWork}
use Rattle.efi_stack.specs.declared.any.Answer.{Answer}
use Rattle.efi_stack.specs.declared.any.Answer.TheVariants.{Done, Posted, Refused}

-- the first refusal whose condition holds, with the work; else what is accepted
abbrev pub AnswersAs : Option Refuse → Option AnyWork → Type 0 → Answer → Type 0
AnswersAs None work Accepted a = Accepted
AnswersAs (Some why) work Accepted a = a ≡ Refused why work

-- what an accepted call leaves
abbrev pub after_ok : {S : Type 0} → Answer → S → S → S
after_ok Done before later = later
after_ok a before later = before

-- what a call answers that hands nothing back
abbrev pub answer_of : Result ⊤ Refuse → Answer
answer_of (Ok done) = Done
answer_of (Err why) = Refused why None

-- how many tokens of this owner an answer took in
abbrev pub came : Owner → Answer → ℕ
came o (Posted t) = counts o (User t)
came o a = 0

-- a token was taken in under this number, or there was no memory for it, and its work is handed back
abbrev pub IsPosted : TokenId → AnyWork → Answer → Type 0
IsPosted token w (Posted t) = t ≡ token
IsPosted token w (Refused OutOfResources given) = given ≡ Some w
IsPosted token w a = ⊥
