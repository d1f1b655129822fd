-- What a command that follows a text answers is what a command answers.
use Rattle.std.proofs.Common.{◌≡◌, ◌≢◌, ◌⊎◌, ◌+◌, ◌<◌, ℕ, false, true, List, [], length, Option, Some, None, IfSome, Result, Ok, Err, inl, inr, refl, sym, subst, ◌∙◌}
use Rattle.std.specs.Io.KnownBytes.{IsAtEnd}
use Rattle.efi_outside.specs.Causes.{Rose}
use Rattle.efi_outside.specs.Intake.{TakesAtMost, input_limit}
use Rattle.efi_feed.specs.Pieces.{TakesExactly}
use Rattle.boot_words.specs.declared.task.Emit.{Emit}
use Rattle.boot_words.specs.declared.task.Task.{Task}
use Rattle.boot_words.specs.declared.task.Task.TheVariants.{Boot, Tftp}
use Rattle.session_text.specs.Sessions.{session_of}
use Rattle.script_text.specs.declared.script.Script.{Script}
use Rattle.boot_top.specs.Commands.{Answers}
use Rattle.boot_top.specs.Extract.{bad_input_text}
use Rattle.boot_top.specs.Parties.{Party, IsUntouched, Takes, TakesFront}
use Rattle.boot_top.specs.Running.{IsVerdict, IsNoVerdict, Runs, Writes, WritesFront}
use Rattle.boot_top.specs.Scripts.{SaysTrace, DecidesTrace}
use Rattle.boot_top.specs.Texts.{IsSaid, IsTold, IsOneOf, IsTextAnswer, DecidesText, IsUnbuilt, IsEight, following}
use Rattle.boot_top.proofs.Ran.{reading-runs, takes-nothing, on-some}

-- the statuses of a command that follows a text
abbrev pub IsTextStatus : ℕ → Type 0
IsTextStatus status = (status ≡ 0) ⊎ (status ≡ 3) ⊎ (status ≡ 4) ⊎ (status ≡ 5) ⊎ (status ≡ 6) ⊎ (status ≡ 7) ⊎ (status ≡ 8)

text-answered : (status : ℕ) → IsTextStatus status → IsVerdict status ⊎ IsNoVerdict status
text-answered status (inl e) = inl (inl e)
text-answered status (inr (inl e)) = inl (inr (inr (inl e)))
text-answered status (inr (inr (inl e))) = inr (inl e)
text-answered status (inr (inr (inr (inl e)))) = inr (inr (inl e))
text-answered status (inr (inr (inr (inr (inl e))))) = inr (inr (inr (inl e)))
text-answered status (inr (inr (inr (inr (inr (inl e)))))) = inr (inr (inr (inr e)))
text-answered status (inr (inr (inr (inr (inr (inr e)))))) = inl (inr (inr (inr e)))

-- 1 isn't among them
no-one : (status : ℕ) → IsTextStatus status → status ≡ 1 → ⊥
no-one status (inl e) one = absurd (cc)
no-one status (inr (inl e)) one = absurd (cc)
no-one status (inr (inr (inl e))) one = absurd (cc)
no-one status (inr (inr (inr (inl e)))) one = absurd (cc)
no-one status (inr (inr (inr (inr (inl e))))) one = absurd (cc)
no-one status (inr (inr (inr (inr (inr (inl e)))))) one = absurd (cc)
no-one status (inr (inr (inr (inr (inr (inr e)))))) one = absurd (cc)

-- where a verdict is given, the text was followed, is bad, or asks for what isn't built
of-verdict : (status : ℕ) (E : Type 0) → IsTextStatus status → (status ≡ 0 → E) → (status ≡ 3 → E) → (status ≡ 8 → E) → IsVerdict status → E
of-verdict status E is said bad good (inl e) = said e
of-verdict status E is said bad good (inr (inl e)) = absurd (no-one status is e)
of-verdict status E is said bad good (inr (inr (inl e))) = bad e
of-verdict status E is said bad good (inr (inr (inr e))) = good e

at-its-end : (status : ℕ) (E : Type 0) → IsTextStatus status → ((status ≡ 0) ⊎ (status ≡ 3) ⊎ (status ≡ 5) ⊎ (status ≡ 8) → E) → IsVerdict status ⊎ (status ≡ 5) → E
at-its-end status E is whole (inl v) =
    of-verdict status E is (λ zero. whole (inl zero)) (λ three. whole (inr (inl three))) (λ eight. whole (inr (inr (inr eight)))) v
at-its-end status E is whole (inr five) = whole (inr (inr (inl five)))

module _ {T : Type 0} where
  meaning-one : (read : Result T ℕ) (a b : T) → read ≡ Ok a → read ≡ Ok b → a ≡ b
  meaning-one read a b is other =
      let both : Ok a ≡ Ok b = sym is ∙ other in
      cc

  not-both : (read : Result T ℕ) (meaning : T) (n : ℕ) → read ≡ Ok meaning → read ≡ Err n → ⊥
  not-both read meaning n good bad =
      let both : Ok meaning ≡ Err n = sym good ∙ bad in
      absurd (cc)

-- what a meaning has written, and the status that it decides, are of one status
module _ {T : Type 0} (reads : List ℕ → Result T ℕ) (Says : T → ℕ → List ℕ → Type 0) (Due : T → ℕ → Type 0) (agree : (meaning : T) (status due : ℕ) (text : List ℕ) → Says meaning status text → Due meaning due → status ≡ due) where
  said-due : (read : Result T ℕ) (status due : ℕ) (text : List ℕ) → IsSaid Says read status text → DecidesText Due read due → status ≡ due
  said-due read status due text s (inl d) =
      agree d.0 status due text (subst (λ (m : T). Says m status text) (meaning-one read s.0 d.0 s.1 d.1) s.2) d.2
  said-due read status due text s (inr d) = absurd (not-both read s.0 d.1 s.1 d.2)

  bad-due : (read : Result T ℕ) (n due : ℕ) → read ≡ Err n → DecidesText Due read due → 3 ≡ due
  bad-due read n due bad (inl d) = absurd (not-both read d.0 n d.1 bad)
  bad-due read n due bad (inr d) = sym d.0

  due-text : (read : Result T ℕ) (status due : ℕ) → IsTextStatus status → (status ≡ 0 → (text : List ℕ) × IsSaid Says read 0 text) → (status ≡ 8 → IsSaid Says read 8 []) → (status ≡ 3 → (n : ℕ) × (read ≡ Err n))
      → DecidesText Due read due → (status ≡ due) ⊎ IsNoVerdict status
  due-text read status due (inl zero) said good bad d = inl (zero ∙ said-due read 0 due (said zero).0 (said zero).1 d)
  due-text read status due (inr (inl three)) said good bad d = inl (three ∙ bad-due read (bad three).0 due (bad three).1 d)
  due-text read status due (inr (inr (inl e))) said good bad d = inr (inl e)
  due-text read status due (inr (inr (inr (inl e)))) said good bad d = inr (inr (inl e))
  due-text read status due (inr (inr (inr (inr (inl e))))) said good bad d = inr (inr (inr (inl e)))
  due-text read status due (inr (inr (inr (inr (inr (inl e)))))) said good bad d = inr (inr (inr (inr e)))
  due-text read status due (inr (inr (inr (inr (inr (inr eight)))))) said good bad d = inl (eight ∙ said-due read 8 due [] (good eight) d)

  decided-text : (left : Option (List ℕ)) (status : ℕ) (A : List ℕ → Type 0) → IsTextStatus status
      → (status ≡ 0 → IfSome left (λ input. (text : List ℕ) × IsSaid Says (reads input) 0 text × A text))
      → (status ≡ 8 → IfSome left (λ input. IsSaid Says (reads input) 8 []))
      → (status ≡ 3 → IfSome left (λ input. (n : ℕ) × (reads input ≡ Err n) × A (bad_input_text n)))
      → IfSome left (λ input. (due : ℕ) → DecidesText Due (reads input) due → (status ≡ due) ⊎ IsNoVerdict status)
  decided-text None status A is said good bad = tt
  decided-text (Some input) status A is said good bad = λ due d.
      due-text (reads input) status due is (λ zero. ((said zero).0, (said zero).1)) good (λ three. ((bad three).0, (bad three).1)) d

  wrote-text : {K P : Type 0} (out : Party K) (cap : Party P) (status : ℕ) (left : Option (List ℕ)) → IsUntouched cap → IsTextStatus status
      → (status ≡ 0 → IfSome left (λ input. (text : List ℕ) × IsSaid Says (reads input) 0 text × Takes out text))
      → (status ≡ 8 → IfSome left (λ input. IsSaid Says (reads input) 8 []))
      → (status ≡ 3 → IfSome left (λ input. (n : ℕ) × (reads input ≡ Err n) × Takes out (bad_input_text n)))
      → (status ≡ 8 → IsUntouched out)
      → IsVerdict status → IfSome left (Writes (following reads Says Due) out cap status)
  wrote-text out cap status left same is said good bad nothing v =
      of-verdict status (IfSome left (Writes (following reads Says Due) out cap status)) is
      (λ zero. on-some left _ _ (λ input w. record {
        text = w.0;
        capture = [];
        right = (refl, inl (subst (λ s. IsSaid Says (reads input) s w.0) (sym zero) w.1));
        out_takes = w.2;
        cap_takes = takes-nothing cap same;
      }) (said zero))
      (λ three. on-some left _ _ (λ input w. record {
        text = bad_input_text w.0;
        capture = [];
        right = (refl, inr (three, (w.0, w.1, refl)));
        out_takes = w.2;
        cap_takes = takes-nothing cap same;
      }) (bad three))
      (λ eight. on-some left _ _ (λ input g. record {
        text = [];
        capture = [];
        right = (refl, inl (subst (λ s. IsSaid Says (reads input) s []) (sym eight) g));
        out_takes = takes-nothing out (nothing eight);
        cap_takes = takes-nothing cap same;
      }) (good eight)) v

  wrote-text-front : {K P : Type 0} (out : Party K) (cap : Party P) (input : List ℕ) → IsUntouched cap
      → IsUntouched out ⊎ ((text : List ℕ) × IsOneOf (IsTold Says (reads input)) text × TakesFront out text)
      → (IsUntouched out × IsUntouched cap) ⊎ WritesFront (following reads Says Due) out cap input
  wrote-text-front out cap input same (inl none) = inl (none, same)
  wrote-text-front out cap input same (inr (text, inl said, f)) = inr (record {
    status = 0;
    text = text;
    capture = [];
    right = (refl, inl said);
    front = inl (takes-nothing cap same, f);
  })
  wrote-text-front out cap input same (inr (text, inr bad, f)) = inr (record {
    status = 3;
    text = text;
    capture = [];
    right = (refl, inr (refl, bad));
    front = inl (takes-nothing cap same, f);
  })

  -- all of it
  pub text-runs : {S K P : Type 0} (src : Party S) (out : Party K) (cap : Party P) (status : ℕ) → IsUntouched cap → IsTextStatus status
      → (status ≡ 0 → IfSome (src.octets src.old) (λ input. (text : List ℕ) × IsSaid Says (reads input) 0 text × Takes out text))
      → (status ≡ 8 → IfSome (src.octets src.old) (λ input. IsSaid Says (reads input) 8 []))
      → (status ≡ 3 → IfSome (src.octets src.old) (λ input. (n : ℕ) × (reads input ≡ Err n) × Takes out (bad_input_text n)))
      → ((status ≡ 5) ⊎ (status ≡ 6) → IfSome (src.octets src.old) (λ input. IsUntouched out ⊎ ((text : List ℕ) × IsOneOf (IsTold Says (reads input)) text × TakesFront out text)))
      → ((status ≡ 4) ⊎ (status ≡ 7) ⊎ (status ≡ 8) → IsUntouched out)
      → ((status ≡ 0) ⊎ (status ≡ 3) ⊎ (status ≡ 5) ⊎ (status ≡ 8) → IsAtEnd (src.octets src.new))
      → (out.new ≢ out.old → IsAtEnd (src.octets src.new))
      → TakesAtMost (src.octets src.old) (src.octets src.new) (input_limit + 1)
      → (status ≡ 7 → TakesExactly (src.octets src.old) (src.octets src.new) (input_limit + 1))
      → (status ≡ 4 → TakesAtMost (src.octets src.old) (src.octets src.new) input_limit)
      → IfSome (src.octets src.old) (λ input. input_limit < length input → (status ≡ 4) ⊎ (status ≡ 6) ⊎ (status ≡ 7))
      → (status ≡ 4 → Rose (src.faults src.old) (src.faults src.new))
      → (status ≡ 5 → Rose (out.faults out.old) (out.faults out.new))
      → (src.faults src.new ≢ src.faults src.old → status ≡ 4)
      → (out.faults out.new ≢ out.faults out.old → status ≡ 5)
      → Runs (following reads Says Due) src out cap status
  text-runs src out cap status same is said good bad front nothing whole first taken too_long failed long source sink source_count sink_count =
      let E : Type 0 = IsAtEnd (src.octets src.new) in
      reading-runs false (λ input s text capture. IsTextAnswer Says (reads input) s text capture) (λ input s. DecidesText Due (reads input) s) src out cap status same
      (text-answered status is)
      (wrote-text out cap status (src.octets src.old) same is said good bad (λ eight. nothing (inr (inr eight))))
      (decided-text (src.octets src.old) status (Takes out) is said good bad)
      (λ stopped. on-some (src.octets src.old) _ _ (λ input f. wrote-text-front out cap input same f) (front stopped))
      nothing
      (λ quiet one. absurd (no-one status is one))
      (λ came. at-its-end status E is whole came)
      first taken too_long failed long source sink source_count sink_count

-- a document decides the status of a command that isn't built
pub unbuilt-agrees : {T : Type 0} (meaning : T) (status due : ℕ) (text : List ℕ) → IsUnbuilt meaning status text → IsEight meaning due → status ≡ due
unbuilt-agrees meaning status due text said eight = said.0 ∙ sym eight

-- and a script that of its run
pub trace-agrees : (script : Script) (status due : ℕ) (text : List ℕ) → SaysTrace script status text → DecidesTrace script due → status ≡ due
trace-agrees script status due text (inl s) (inl d) = s.0 ∙ sym d.0
trace-agrees script status due text (inl s) (inr d) =
    let both : true ≡ false = sym s.1 ∙ d.1 in
    absurd (cc)
trace-agrees script status due text (inr s) (inl d) =
    let both : false ≡ true = sym s.1 ∙ d.1 in
    absurd (cc)
trace-agrees script status due text (inr s) (inr d) = s.0 ∙ sym d.0

-- what is answered to a document is answered to the commands that read one
pub boot-answers : {S K P : Type 0} (x : Task) (emit : Emit) (src : Party S) (out : Party K) (cap : Party P) (status : ℕ) → x ≡ Boot emit
    → Runs (following session_of IsUnbuilt IsEight) src out cap status → Answers x src out cap status
boot-answers x emit src out cap status is runs = subst (λ (t : Task). Answers t src out cap status) (sym is) runs

pub tftp-answers : {S K P : Type 0} (x : Task) (emit : Emit) (src : Party S) (out : Party K) (cap : Party P) (status : ℕ) → x ≡ Tftp emit
    → Runs (following session_of IsUnbuilt IsEight) src out cap status → Answers x src out cap status
tftp-answers x emit src out cap status is runs = subst (λ (t : Task). Answers t src out cap status) (sym is) runs
