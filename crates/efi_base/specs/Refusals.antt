-- How a call answers, by the first refusal whose condition holds.
use Rattle.std.specs.Prelude.{◌≡◌, ⊤, Bool, true, false, Option, Some, None, Result, Ok, Err}
use Rattle.efi_base.specs.declared.refuse.Refuse.{Refuse}
use Rattle.efi_base.specs.declared.refuse.Refuse.TheVariants.{OutOfResources}
use Rattle.efi_base.specs.declared.refuse.Refused.{Refused}

-- a call that takes no memory answers exactly this refusal, and is accepted where there is none
abbrev pub RefusesExactly : {T : Type 0} → Option Refuse → Result T Refuse → Type 0
RefusesExactly None (Ok value) = ⊤
RefusesExactly None (Err why) = ⊥
RefusesExactly (Some first) (Ok value) = ⊥
RefusesExactly (Some first) (Err why) = why ≡ first

-- the same of a call that hands its work back
abbrev pub HandsBackExactly : {T W : Type 0} → Option Refuse → Result T (Refused W) → Type 0
HandsBackExactly None (Ok value) = ⊤
HandsBackExactly None (Err refused) = ⊥
HandsBackExactly (Some first) (Ok value) = ⊥
HandsBackExactly (Some first) (Err refused) = refused.why ≡ first

-- the same of a call that may lack memory: where nothing refuses it, it is accepted, or answers want of memory
abbrev pub AnswersBy : {T W : Type 0} → Option Refuse → Result T (Refused W) → Type 0
AnswersBy None (Ok value) = ⊤
AnswersBy None (Err refused) = refused.why ≡ OutOfResources
AnswersBy (Some first) (Ok value) = ⊥
AnswersBy (Some first) (Err refused) = refused.why ≡ first

-- the same where there is no work
abbrev pub RefusesBy : {T : Type 0} → Option Refuse → Result T Refuse → Type 0
RefusesBy None (Ok value) = ⊤
RefusesBy None (Err why) = why ≡ OutOfResources
RefusesBy (Some first) (Ok value) = ⊥
RefusesBy (Some first) (Err why) = why ≡ first

-- the first of two refusals
abbrev pub first_of : Option Refuse → Option Refuse → Option Refuse
first_of None later = later
first_of (Some why) later = Some why

abbrev pub refuse_if : Bool → Refuse → Option Refuse
refuse_if true why = Some why
refuse_if false why = None
