-- Steps of a script, one after another.
use Rattle.std.proofs.Common.{◌≡◌, ℕ, ◌+◌, ◌<◌, ◌≤◌, zero, suc, List, [], ◌∷◌, ◌++◌, drop, length, Result, Ok, Err, IfOk, refl, sym, ap, subst, ◌∙◌, arith, get_or}
use Rattle.std.proofs.lemmas.List.{append-nil, append_assoc, drop_more}
use Rattle.efi_stack.specs.declared.any.AnyHandle.{AnyHandle}
use Rattle.efi_stack.specs.declared.stack.Stack.{Stack}
use Rattle.script_text.specs.declared.step.Step.{Step}
use Rattle.doc_text.specs.declared.trace.TraceLine.{TraceLine}
use Rattle.script_run.specs.Running.{HasEvent, RunsTo}

-- one step, and then the others
pub run-more : (given : List AnyHandle) (s : Stack) (steps : List Step) (i : ℕ) (this : Step) (now : List AnyHandle) (later : Stack) (before after_it more : List TraceLine)
    → i < length steps → this ≡ get_or steps i this → HasEvent given s this now later before after_it → RunsTo now later (drop (i + 1) steps) more
    → (x : List TraceLine) × RunsTo given s (drop i steps) x × (after_it ++ more ≡ before ++ x)
run-more given s steps i this now later before after_it more within is e runs =
    let split : drop i steps ≡ this ∷ drop (i + 1) steps = drop_more steps i this within ∙ ap (λ t. t ∷ drop (i + 1) steps) (sym is) in (
      e.0 ++ more,
      subst (λ l. RunsTo given s l (e.0 ++ more)) (sym split) (now, later, e.0, more, e.1, runs, refl),
      ap (λ l. l ++ more) e.2 ∙ append_assoc before e.0 more,
    )

pub drop-over : {X : Type 0} (xs : List X) (i : ℕ) → length xs ≤ i → drop i xs ≡ []
drop-over [] zero h = refl
drop-over [] (suc i) h = refl
drop-over (x ∷ xs) zero h = absurd (omega (arith, h))
drop-over (x ∷ xs) (suc i) h = drop-over xs i (omega (arith, h))

-- behind the last step nothing runs
pub run-none : (given : List AnyHandle) (s : Stack) (steps : List Step) (i : ℕ) → length steps ≤ i → RunsTo given s (drop i steps) []
run-none given s steps i over = subst (λ l. RunsTo given s l []) (sym (drop-over steps i over)) refl

pub if-ok : {T E : Type 0} (r : Result T E) (P Q : T → Type 0) → ((t : T) → P t → Q t) → IfOk r P → IfOk r Q
if-ok (Ok value) P Q f h = f value h
if-ok (Err e) P Q f h = tt
