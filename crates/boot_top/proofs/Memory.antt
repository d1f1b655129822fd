-- Nothing is read or written for want of memory.
use Rattle.std.proofs.Common.{rules, ◌≡◌, ◌⊎◌, ◌+◌, ◌<◌, ℕ, List, [], length, Option, Some, None, IfSome, Result, inl, inr, refl, sym, subst, ap}
use Rattle.std.proofs.KnownBytes.{Consumes-nil}
use Rattle.efi_outside.specs.Intake.{TakesAtMost, input_limit}
use Rattle.boot_words.specs.declared.task.Task.{Task}
use Rattle.boot_words.specs.declared.task.Task.TheVariants.{Extract, Script, Replay, Boot, Tftp, Make}
use Rattle.session_text.specs.Sessions.{session_of}
use Rattle.script_text.specs.Scripts.{script_of}
use Rattle.boot_top.specs.Commands.{Answers}
use Rattle.boot_top.specs.Parties.{Party, IsUntouched}
use Rattle.boot_top.specs.Running.{Runs}
use Rattle.boot_top.specs.Scripts.{SaysTrace, DecidesTrace}
use Rattle.boot_top.specs.Texts.{IsEight, IsUnbuilt, following}
use Rattle.boot_top.proofs.Followed.{text-runs, unbuilt-agrees, trace-agrees}
use Rattle.boot_top.proofs.Ran.{extract-runs}

untouched-front : (left : Option (List ℕ)) (N : Type 0) (X : List ℕ → Type 0) → N → IfSome left (λ input. N ⊎ X input)
untouched-front None N X o = tt
untouched-front (Some input) N X o = inl o

long-six : (left : Option (List ℕ)) (status : ℕ) → status ≡ 6 → IfSome left (λ input. input_limit < length input → (status ≡ 4) ⊎ (status ≡ 6) ⊎ (status ≡ 7))
long-six None status six = tt
long-six (Some input) status six = λ long. inr (inl six)

no-end : (status : ℕ) → status ≡ 6 → (status ≡ 0) ⊎ (status ≡ 1) ⊎ (status ≡ 3) ⊎ (status ≡ 5) → ⊥
no-end status six (inl e) = absurd (cc)
no-end status six (inr (inl e)) = absurd (cc)
no-end status six (inr (inr (inl e))) = absurd (cc)
no-end status six (inr (inr (inr e))) = absurd (cc)

no-text-end : (status : ℕ) → status ≡ 6 → (status ≡ 0) ⊎ (status ≡ 3) ⊎ (status ≡ 5) ⊎ (status ≡ 8) → ⊥
no-text-end status six (inl e) = absurd (cc)
no-text-end status six (inr (inl e)) = absurd (cc)
no-text-end status six (inr (inr (inl e))) = absurd (cc)
no-text-end status six (inr (inr (inr e))) = absurd (cc)

none-taken : {S : Type 0} (src : Party S) → IsUntouched src → TakesAtMost (src.octets src.old) (src.octets src.new) (input_limit + 1)
none-taken src s =
    subst (λ now. TakesAtMost (src.octets src.old) (src.octets now) (input_limit + 1)) (sym s) ([], Consumes-nil (src.octets src.old), search rules)

text-no-memory : {S K P T : Type 0} (reads : List ℕ → Result T ℕ) (Says : T → ℕ → List ℕ → Type 0) (Due : T → ℕ → Type 0)
    → ((meaning : T) (status due : ℕ) (text : List ℕ) → Says meaning status text → Due meaning due → status ≡ due)
    → (src : Party S) (out : Party K) (cap : Party P) → IsUntouched src → IsUntouched out → IsUntouched cap
    → Runs (following reads Says Due) src out cap 6
text-no-memory reads Says Due agree src out cap s o c = text-runs reads Says Due agree src out cap 6 c (inr (inr (inr (inr (inl refl)))))
    (λ e. absurd (cc)) (λ e. absurd (cc)) (λ e. absurd (cc)) (λ e. untouched-front (src.octets src.old) (IsUntouched out) _ o) (λ e. o)
    (λ e. absurd (no-text-end 6 refl e)) (λ n. absurd (n o)) (none-taken src s)
    (λ e. absurd (cc)) (λ e. absurd (cc)) (long-six (src.octets src.old) 6 refl) (λ e. absurd (cc)) (λ e. absurd (cc))
    (λ n. absurd (n (ap src.faults s))) (λ n. absurd (n (ap out.faults o)))

pub no-memory : {S K P : Type 0} (task : Task) (src : Party S) (out : Party K) (cap : Party P) → IsUntouched src → IsUntouched out → IsUntouched cap
    → Answers task src out cap 6
no-memory (Extract t) src out cap s o c = extract-runs t src out cap 6 c (inr (inr (inr (inr (inr (inl refl))))))
    (λ e. absurd (cc)) (λ e. absurd (cc)) (λ e. absurd (cc)) (λ e. untouched-front (src.octets src.old) (IsUntouched out) _ o) (λ e. o) (λ e i. o)
    (λ e. absurd (no-end 6 refl e)) (λ n. absurd (n o)) (none-taken src s)
    (λ e. absurd (cc)) (λ e. absurd (cc)) (long-six (src.octets src.old) 6 refl) (λ e. absurd (cc)) (λ e. absurd (cc))
    (λ n. absurd (n (ap src.faults s))) (λ n. absurd (n (ap out.faults o)))
no-memory Script src out cap s o c = text-no-memory script_of SaysTrace DecidesTrace trace-agrees src out cap s o c
no-memory (Replay t) src out cap s o c = record { answered = inr refl; source = s; output = o; capture = c }
no-memory (Boot emit) src out cap s o c = text-no-memory session_of IsUnbuilt IsEight unbuilt-agrees src out cap s o c
no-memory (Tftp emit) src out cap s o c = text-no-memory session_of IsUnbuilt IsEight unbuilt-agrees src out cap s o c
no-memory (Make t) src out cap s o c = record { answered = inr refl; source = s; output = o; capture = c }
