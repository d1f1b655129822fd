-- What `extract` answers is what a command answers.
use Rattle.std.proofs.Common.{◌≡◌, ◌≢◌, ◌⊎◌, ◌+◌, ◌<◌, ℕ, Bool, true, List, [], length, Option, Some, None, IfSome, inl, inr, refl, sym, subst, ap, ◌∙◌}
use Rattle.std.proofs.KnownBytes.{Appends-nil}
use Rattle.std.specs.Io.KnownBytes.{Appends, IsAtEnd}
use Rattle.efi_outside.specs.Causes.{Rose}
use Rattle.efi_outside.specs.Intake.{TakesAtMost, input_limit}
use Rattle.boot_words.specs.declared.task.Emit.{Emit}
use Rattle.boot_words.specs.declared.task.Emit.TheVariants.{Report, Image}
use Rattle.boot_words.specs.declared.task.ExtractTask.{ExtractTask}
use Rattle.boot_words.specs.declared.task.Task.{Task}
use Rattle.boot_words.specs.declared.task.Task.TheVariants.{Extract}
use Rattle.boot_top.specs.Commands.{AskFor, AskToExtract, Answers}
use Rattle.boot_top.specs.Extract.{Succeeded, EndedOtherwise, IsExtracted, IsRefusal, DecidesExtract, extracting, is_image}
use Rattle.efi_feed.specs.Pieces.{TakesExactly}
use Rattle.boot_top.specs.Parties.{Party, IsUntouched, Takes, TakesFront}
use Rattle.boot_top.specs.Running.{IsVerdict, IsNoVerdict, Runs, Writes, WritesFront, reading}
use Rattle.boot_top.specs.Watched.{IsAnswerText}
use Rattle.boot_top.proofs.Exact.{IsStatus, decided-of}

-- words ask for one thing, and what is answered to it is answered to what they ask for
pub asked-one : {S K P : Type 0} (words : List (List ℕ)) (a b : Task) (src : Party S) (out : Party K) (cap : Party P) (status : ℕ)
    → AskFor words a → AskFor words b → Answers a src out cap status → Answers b src out cap status
asked-one words a b src out cap status asked ask answers =
    let both : Some a ≡ Some b = sym asked ∙ ask in
    let same : a ≡ b = cc in
    subst (λ (task : Task). Answers task src out cap status) same answers

-- a status is a verdict or none
verdict-or-none : (status : ℕ) → IsStatus status → IsVerdict status ⊎ IsNoVerdict status
verdict-or-none status (inl zero) = inl (inl zero)
verdict-or-none status (inr (inl one)) = inl (inr (inl one))
verdict-or-none status (inr (inr (inl three))) = inl (inr (inr (inl three)))
verdict-or-none status (inr (inr (inr other))) = inr other

pub on-some : (left : Option (List ℕ)) (A B : List ℕ → Type 0) → ((input : List ℕ) → A input → B input) → IfSome left A → IfSome left B
on-some None A B leads a = tt
on-some (Some input) A B leads a = leads input a

pub takes-nothing : {T : Type 0} (p : Party T) → IsUntouched p → Takes p []
takes-nothing p same =
    subst (λ now. Appends (p.octets p.old) (p.octets now) []) (sym same) (Appends-nil (p.octets p.old))

-- no download is answered by 8
no-eight : (status : ℕ) → IsStatus status → status ≡ 8 → ⊥
no-eight status (inl e) eight = absurd (cc)
no-eight status (inr (inl e)) eight = absurd (cc)
no-eight status (inr (inr (inl e))) eight = absurd (cc)
no-eight status (inr (inr (inr (inl e)))) eight = absurd (cc)
no-eight status (inr (inr (inr (inr (inl e))))) eight = absurd (cc)
no-eight status (inr (inr (inr (inr (inr (inl e)))))) eight = absurd (cc)
no-eight status (inr (inr (inr (inr (inr (inr e)))))) eight = absurd (cc)

wrote : {K P : Type 0} (t : ExtractTask) (out : Party K) (cap : Party P) (status : ℕ) (left : Option (List ℕ)) → IsStatus status → IsUntouched cap
    → (status ≡ 0 → IfSome left (λ input. (text : List ℕ) × Succeeded t input text × Takes out text))
    → (status ≡ 1 → IfSome left (λ input. (text : List ℕ) × EndedOtherwise t input text × Takes out text))
    → (status ≡ 3 → IfSome left (λ input. (line : List ℕ) × IsRefusal input line × Takes out line))
    → IsVerdict status → IfSome left (Writes (extracting t) out cap status)
wrote t out cap status left is same success otherwise refused (inl zero) =
    on-some left _ _ (λ input w. record {
      text = w.0;
      capture = [];
      right = (refl, inl (zero, w.1));
      out_takes = w.2;
      cap_takes = takes-nothing cap same;
    }) (success zero)
wrote t out cap status left is same success otherwise refused (inr (inl one)) =
    on-some left _ _ (λ input w. record {
      text = w.0;
      capture = [];
      right = (refl, inr (inl (one, w.1)));
      out_takes = w.2;
      cap_takes = takes-nothing cap same;
    }) (otherwise one)
wrote t out cap status left is same success otherwise refused (inr (inr (inl three))) =
    on-some left _ _ (λ input w. record {
      text = w.0;
      capture = [];
      right = (refl, inr (inr (three, w.1)));
      out_takes = w.2;
      cap_takes = takes-nothing cap same;
    }) (refused three)
wrote t out cap status left is same success otherwise refused (inr (inr (inr eight))) = absurd (no-eight status is eight)

-- an input that came to its end with a verdict or a failed write
ended : (status : ℕ) (E : Type 0) → IsStatus status → ((status ≡ 0) ⊎ (status ≡ 1) ⊎ (status ≡ 3) ⊎ (status ≡ 5) → E) → IsVerdict status ⊎ (status ≡ 5) → E
ended status E is whole (inl (inl zero)) = whole (inl zero)
ended status E is whole (inl (inr (inl one))) = whole (inr (inl one))
ended status E is whole (inl (inr (inr (inl three)))) = whole (inr (inr (inl three)))
ended status E is whole (inl (inr (inr (inr eight)))) = absurd (no-eight status is eight)
ended status E is whole (inr five) = whole (inr (inr (inr five)))

-- nothing is written with 8, since it isn't answered
nothing-else : (status : ℕ) (N : Type 0) → IsStatus status → ((status ≡ 4) ⊎ (status ≡ 7) → N) → (status ≡ 4) ⊎ (status ≡ 7) ⊎ (status ≡ 8) → N
nothing-else status N is nothing (inl four) = nothing (inl four)
nothing-else status N is nothing (inr (inl seven)) = nothing (inr seven)
nothing-else status N is nothing (inr (inr eight)) = absurd (no-eight status is eight)

wrote-front : {K P : Type 0} (t : ExtractTask) (out : Party K) (cap : Party P) (input : List ℕ) → IsUntouched cap
    → (IsUntouched out ⊎ ((text : List ℕ) × IsAnswerText t input text × TakesFront out text))
    → (IsUntouched out × IsUntouched cap) ⊎ WritesFront (extracting t) out cap input
wrote-front t out cap input same (inl none) = inl (none, same)
wrote-front t out cap input same (inr (text, inl s, f)) = inr (record {
  status = 0;
  text = text;
  capture = [];
  right = (refl, inl (refl, s));
  front = inl (takes-nothing cap same, f);
})
wrote-front t out cap input same (inr (text, inr (inl o), f)) = inr (record {
  status = 1;
  text = text;
  capture = [];
  right = (refl, inr (inl (refl, o)));
  front = inl (takes-nothing cap same, f);
})
wrote-front t out cap input same (inr (text, inr (inr r), f)) = inr (record {
  status = 3;
  text = text;
  capture = [];
  right = (refl, inr (inr (refl, r)));
  front = inl (takes-nothing cap same, f);
})

image-of : (emit : Emit) → is_image emit ≡ true → emit ≡ Image
image-of Image is = refl
image-of Report is = absurd (cc)

-- nothing came to the other sink
read-first : {S K P : Type 0} (src : Party S) (out : Party K) (cap : Party P) → IsUntouched cap → (out.new ≢ out.old → IsAtEnd (src.octets src.new))
    → (out.new ≢ out.old) ⊎ (cap.new ≢ cap.old) → IsAtEnd (src.octets src.new)
read-first src out cap same first (inl wrote) = first wrote
read-first src out cap same first (inr wrote) = absurd (wrote same)

sink-failed : {K P : Type 0} (out : Party K) (cap : Party P) (status : ℕ) → IsUntouched cap → (out.faults out.new ≢ out.faults out.old → status ≡ 5)
    → (out.faults out.new ≢ out.faults out.old) ⊎ (cap.faults cap.new ≢ cap.faults cap.old) → status ≡ 5
sink-failed out cap status same failed (inl rose) = failed rose
sink-failed out cap status same failed (inr rose) = absurd (rose (ap cap.faults same))

-- a command that reads its input and writes no capture
pub reading-runs : {S K P : Type 0} (quiet : Bool) (Right : List ℕ → ℕ → List ℕ → List ℕ → Type 0) (Due : List ℕ → ℕ → Type 0) (src : Party S) (out : Party K) (cap : Party P) (status : ℕ) → IsUntouched cap
    → IsVerdict status ⊎ IsNoVerdict status
    → (IsVerdict status → IfSome (src.octets src.old) (Writes (reading quiet Right Due) out cap status))
    → IfSome (src.octets src.old) (λ input. (due : ℕ) → Due input due → (status ≡ due) ⊎ IsNoVerdict status)
    → ((status ≡ 5) ⊎ (status ≡ 6) → IfSome (src.octets src.old) (λ input. (IsUntouched out × IsUntouched cap) ⊎ WritesFront (reading quiet Right Due) out cap input))
    → ((status ≡ 4) ⊎ (status ≡ 7) ⊎ (status ≡ 8) → IsUntouched out)
    → (quiet ≡ true → status ≡ 1 → IsUntouched out)
    → (IsVerdict status ⊎ (status ≡ 5) → IsAtEnd (src.octets src.new))
    → (out.new ≢ out.old → IsAtEnd (src.octets src.new))
    → TakesAtMost (src.octets src.old) (src.octets src.new) (input_limit + 1)
    → (status ≡ 7 → TakesExactly (src.octets src.old) (src.octets src.new) (input_limit + 1))
    → (status ≡ 4 → TakesAtMost (src.octets src.old) (src.octets src.new) input_limit)
    → IfSome (src.octets src.old) (λ input. input_limit < length input → (status ≡ 4) ⊎ (status ≡ 6) ⊎ (status ≡ 7))
    → (status ≡ 4 → Rose (src.faults src.old) (src.faults src.new))
    → (status ≡ 5 → Rose (out.faults out.old) (out.faults out.new))
    → (src.faults src.new ≢ src.faults src.old → status ≡ 4)
    → (out.faults out.new ≢ out.faults out.old → status ≡ 5)
    → Runs (reading quiet Right Due) src out cap status
reading-runs quiet Right Due src out cap status same answered verdict decided front nothing silent whole first taken too_long failed long source sink source_count sink_count = record {
  answered = answered;
  verdict = verdict;
  decided = decided;
  front = front;
  nothing = λ stopped. (nothing stopped, same);
  silent = silent;
  no_capture = λ none. same;
  reads = record {
    whole = whole;
    first = read-first src out cap same first;
    taken = taken;
    too_long = too_long;
    failed = failed;
    long = long;
  };
  causes = record {
    source = source;
    source_failed = source_count;
    sink = λ five. inl (sink five);
    sink_failed = sink-failed out cap status same sink_count;
  };
}

-- all of `extract`
pub extract-runs : {S K P : Type 0} (t : ExtractTask) (src : Party S) (out : Party K) (cap : Party P) (status : ℕ) → IsUntouched cap → IsStatus status
    → (status ≡ 0 → IfSome (src.octets src.old) (λ input. (text : List ℕ) × Succeeded t input text × Takes out text))
    → (status ≡ 1 → IfSome (src.octets src.old) (λ input. (text : List ℕ) × EndedOtherwise t input text × Takes out text))
    → (status ≡ 3 → IfSome (src.octets src.old) (λ input. (line : List ℕ) × IsRefusal input line × Takes out line))
    → ((status ≡ 5) ⊎ (status ≡ 6) → IfSome (src.octets src.old) (λ input. IsUntouched out ⊎ ((text : List ℕ) × IsAnswerText t input text × TakesFront out text)))
    → ((status ≡ 4) ⊎ (status ≡ 7) → IsUntouched out)
    → (status ≡ 1 → t.emit ≡ Image → IsUntouched out)
    → ((status ≡ 0) ⊎ (status ≡ 1) ⊎ (status ≡ 3) ⊎ (status ≡ 5) → IsAtEnd (src.octets src.new))
    → (out.new ≢ out.old → IsAtEnd (src.octets src.new))
    → TakesAtMost (src.octets src.old) (src.octets src.new) (input_limit + 1)
    → (status ≡ 7 → TakesExactly (src.octets src.old) (src.octets src.new) (input_limit + 1))
    → (status ≡ 4 → TakesAtMost (src.octets src.old) (src.octets src.new) input_limit)
    → IfSome (src.octets src.old) (λ input. input_limit < length input → (status ≡ 4) ⊎ (status ≡ 6) ⊎ (status ≡ 7))
    → (status ≡ 4 → Rose (src.faults src.old) (src.faults src.new))
    → (status ≡ 5 → Rose (out.faults out.old) (out.faults out.new))
    → (src.faults src.new ≢ src.faults src.old → status ≡ 4)
    → (out.faults out.new ≢ out.faults out.old → status ≡ 5)
    → Runs (extracting t) src out cap status
extract-runs t src out cap status same is success otherwise refused front nothing no_image whole first taken too_long failed long source sink source_count sink_count =
    reading-runs (is_image t.emit) (IsExtracted t) (DecidesExtract t) src out cap status same (verdict-or-none status is)
    (wrote t out cap status (src.octets src.old) is same success otherwise refused)
    (decided-of (src.octets src.old) t status (Takes out) is success otherwise refused)
    (λ stopped. on-some (src.octets src.old) _ _ (λ input f. wrote-front t out cap input same f) (front stopped))
    (nothing-else status (IsUntouched out) is nothing) (λ image one. no_image one (image-of t.emit image)) (ended status (IsAtEnd (src.octets src.new)) is whole)
    first taken too_long failed long source sink source_count sink_count

-- words ask for one extraction
pub extract-one : (words : List (List ℕ)) (a b : ExtractTask) → AskToExtract words a → AskToExtract words b → a ≡ b
extract-one words a b asked ask =
    let both : Some (Extract a) ≡ Some (Extract b) = sym asked ∙ ask in
    cc
