-- What an answer rules out: a capture shows one thing, so what it shows decides the answer.
use Rattle.std.proofs.Common.{◌≡◌, ◌⊎◌, ℕ, Bool, true, false, List, [], Option, Some, None, IfSome, inl, inr, sym, ap, subst, ◌∙◌}
use Rattle.efi_base.specs.declared.plain.Record.{Record}
use Rattle.boot_words.specs.declared.task.Emit.{Emit}
use Rattle.boot_words.specs.declared.task.Emit.TheVariants.{Image}
use Rattle.boot_words.specs.declared.task.ExtractTask.{ExtractTask}
use Rattle.wire_http.specs.Response.{IsWhole}
use Rattle.wire_l4.specs.Segment.{Segment}
use Rattle.wire_pcap.proofs.Unique.{one_whole}
use Rattle.tap_core.specs.Peers.{Succeeds}
use Rattle.tap_core.specs.Shows.{Telling, Shows}
use Rattle.tap_core.proofs.OneThing.{shows-one}
use Rattle.tap_core.proofs.Honest.{succeeds-exactly, shown-whole}
use Rattle.boot_top.specs.Extract.{Extracts, Succeeded, EndedOtherwise, DecidesExtract, IsNoCapture, IsOutput, IsRefusal, is_success}
use Rattle.boot_top.specs.HonestPeers.{HasHonestPeer}
use Rattle.boot_top.specs.Running.{IsNoVerdict}
use Rattle.boot_top.proofs.Successes.{number-of}

-- octets show one thing
extracts-one : (most : ℕ) (bytes : List ℕ) (t u : Telling) → Extracts most bytes t → Extracts most bytes u → t ≡ u
extracts-one most bytes t u x y =
    let same : x.records ≡ y.records = one_whole bytes [] x.records y.records x.capture y.capture in
    shows-one most y.records t u (subst (λ (r : List Record). Shows most r t) same x.shows) y.shows

not-both : (b : Bool) → b ≡ true → b ≡ false → ⊥
not-both b t f = absurd (cc)

-- no telling of the same octets ends in both ways
ends-one : (most : ℕ) (bytes : List ℕ) (t u : Telling) → Extracts most bytes t → Extracts most bytes u → is_success t.end ≡ true → is_success u.end ≡ false → ⊥
ends-one most bytes t u x y s o =
    not-both (is_success t.end) s (ap (λ (v : Telling). is_success v.end) (extracts-one most bytes t u x y) ∙ o)

-- the statuses of a command that is built
abbrev pub IsStatus : ℕ → Type 0
IsStatus status = (status ≡ 0) ⊎ (status ≡ 1) ⊎ (status ≡ 3) ⊎ (status ≡ 4) ⊎ (status ≡ 5) ⊎ (status ≡ 6) ⊎ (status ≡ 7)

-- an input on which the download ends with success is answered so
succeeds-of : (left : Option (List ℕ)) (task : ExtractTask) (status : ℕ) (A : List ℕ → Type 0) → IsStatus status
    → (status ≡ 1 → IfSome left (λ input. (text : List ℕ) × EndedOtherwise task input text × A text))
    → (status ≡ 3 → IfSome left (λ input. (line : List ℕ) × IsRefusal input line × A line))
    → IfSome left (λ input. (t : Telling) → Extracts task.buffer input t → is_success t.end ≡ true → (status ≡ 0) ⊎ IsNoVerdict status)
succeeds-of None task status A is otherwise refused = tt
succeeds-of (Some input) task status A (inl zero) otherwise refused = λ t x s. inl zero
succeeds-of (Some input) task status A (inr (inl one)) otherwise refused = λ t x s.
    let e = (otherwise one).1 in
    absurd (ends-one task.buffer input t e.telling x e.extracts s e.otherwise)
succeeds-of (Some input) task status A (inr (inr (inl three))) otherwise refused = λ t x s.
    absurd ((refused three).1.1.none x.records x.capture)
succeeds-of (Some input) task status A (inr (inr (inr other))) otherwise refused = λ t x s. inr other

-- and one on which it ends otherwise
ends-of : (left : Option (List ℕ)) (task : ExtractTask) (status : ℕ) (A : List ℕ → Type 0) → IsStatus status
    → (status ≡ 0 → IfSome left (λ input. (text : List ℕ) × Succeeded task input text × A text))
    → (status ≡ 3 → IfSome left (λ input. (line : List ℕ) × IsRefusal input line × A line))
    → IfSome left (λ input. (t : Telling) → Extracts task.buffer input t → is_success t.end ≡ false → (status ≡ 1) ⊎ IsNoVerdict status)
ends-of None task status A is success refused = tt
ends-of (Some input) task status A (inl zero) success refused = λ t x s.
    let e = (success zero).1 in
    absurd (ends-one task.buffer input e.telling t e.extracts x e.succeeded s)
ends-of (Some input) task status A (inr (inl one)) success refused = λ t x s. inl one
ends-of (Some input) task status A (inr (inr (inl three))) success refused = λ t x s.
    absurd ((refused three).1.1.none x.records x.capture)
ends-of (Some input) task status A (inr (inr (inr other))) success refused = λ t x s. inr other

-- and one that is no capture
no-capture-of : (left : Option (List ℕ)) (task : ExtractTask) (status : ℕ) (A : List ℕ → Type 0) → IsStatus status
    → (status ≡ 0 → IfSome left (λ input. (text : List ℕ) × Succeeded task input text × A text))
    → (status ≡ 1 → IfSome left (λ input. (text : List ℕ) × EndedOtherwise task input text × A text))
    → IfSome left (λ input. IsNoCapture input → (status ≡ 3) ⊎ IsNoVerdict status)
no-capture-of None task status A is success otherwise = tt
no-capture-of (Some input) task status A (inl zero) success otherwise = λ none.
    let e = (success zero).1 in
    absurd (none e.extracts.records e.extracts.capture)
no-capture-of (Some input) task status A (inr (inl one)) success otherwise = λ none.
    let e = (otherwise one).1 in
    absurd (none e.extracts.records e.extracts.capture)
no-capture-of (Some input) task status A (inr (inr (inl three))) success otherwise = λ none. inl three
no-capture-of (Some input) task status A (inr (inr (inr other))) success otherwise = λ none. inr other

due-of : (N : Type 0) (status verdict due : ℕ) → (status ≡ verdict) ⊎ N → due ≡ verdict → (status ≡ due) ⊎ N
due-of N status verdict due (inl is) same = inl (is ∙ sym same)
due-of N status verdict due (inr other) same = inr other

due-by : (task : ExtractTask) (input : List ℕ) (status due : ℕ)
    → ((t : Telling) → Extracts task.buffer input t → is_success t.end ≡ true → (status ≡ 0) ⊎ IsNoVerdict status)
    → ((t : Telling) → Extracts task.buffer input t → is_success t.end ≡ false → (status ≡ 1) ⊎ IsNoVerdict status)
    → (IsNoCapture input → (status ≡ 3) ⊎ IsNoVerdict status) → DecidesExtract task input due → (status ≡ due) ⊎ IsNoVerdict status
due-by task input status due succeeds ends refuses (inl (is, t, x, e)) = due-of (IsNoVerdict status) status 0 due (succeeds t x e) is
due-by task input status due succeeds ends refuses (inr (inl (is, t, x, e))) = due-of (IsNoVerdict status) status 1 due (ends t x e) is
due-by task input status due succeeds ends refuses (inr (inr (is, none))) = due-of (IsNoVerdict status) status 3 due (refuses none) is

-- the input alone decides which of the verdicts comes
pub decided-of : (left : Option (List ℕ)) (task : ExtractTask) (status : ℕ) (A : List ℕ → Type 0) → IsStatus status
    → (status ≡ 0 → IfSome left (λ input. (text : List ℕ) × Succeeded task input text × A text))
    → (status ≡ 1 → IfSome left (λ input. (text : List ℕ) × EndedOtherwise task input text × A text))
    → (status ≡ 3 → IfSome left (λ input. (line : List ℕ) × IsRefusal input line × A line))
    → IfSome left (λ input. (due : ℕ) → DecidesExtract task input due → (status ≡ due) ⊎ IsNoVerdict status)
decided-of None task status A is success otherwise refused = tt
decided-of (Some input) task status A is success otherwise refused = λ due decides.
    due-by task input status due (succeeds-of (Some input) task status A is otherwise refused)
    (ends-of (Some input) task status A is success refused) (no-capture-of (Some input) task status A is success otherwise) decides

-- what octets show is shown of the records that they are
shown-of : (most : ℕ) (bytes : List ℕ) (t : Telling) (irs : ℕ) (heard : List (Option Segment)) (stream : List ℕ) → Extracts most bytes t
    → (h : HasHonestPeer bytes irs heard stream) → Shows most h.records t
shown-of most bytes t irs heard stream x h =
    subst (λ (r : List Record). Shows most r t) (one_whole bytes [] x.records h.records x.capture h.capture) x.shows

comes-to-hold : (task : ExtractTask) (bytes text : List ℕ) (irs : ℕ) (heard : List (Option Segment)) (stream : List ℕ) → Succeeded task bytes text
    → HasHonestPeer bytes irs heard stream → Succeeds task.buffer irs heard
comes-to-hold task bytes text irs heard stream s h =
    let n = number-of s.telling.end s.succeeded in
    (succeeds-exactly task.buffer h.records s.telling h.opening irs h.place heard (shown-of task.buffer bytes s.telling irs heard stream s.extracts h) h.connection).1 n.0 n.1

never-holds : (task : ExtractTask) (bytes text : List ℕ) (irs : ℕ) (heard : List (Option Segment)) (stream : List ℕ) → EndedOtherwise task bytes text
    → HasHonestPeer bytes irs heard stream → Succeeds task.buffer irs heard → ⊥
never-holds task bytes text irs heard stream e h s =
    let end = (succeeds-exactly task.buffer h.records e.telling h.opening irs h.place heard (shown-of task.buffer bytes e.telling irs heard stream e.extracts h) h.connection).0 s in
    not-both (is_success e.telling.end) (ap is_success end) e.otherwise

whole-of-stream : (task : ExtractTask) (bytes text : List ℕ) (irs : ℕ) (heard : List (Option Segment)) (stream : List ℕ) → Succeeded task bytes text
    → HasHonestPeer bytes irs heard stream → task.emit ≡ Image → IsWhole stream true 200 text
whole-of-stream task bytes text irs heard stream s h image =
    let i = subst (λ (e : Emit). IsOutput e task.buffer s.telling text) image s.output in
    shown-whole task.buffer h.records s.telling h.opening irs h.place stream heard (shown-of task.buffer bytes s.telling irs heard stream s.extracts h)
    h.connection h.honest 200 text i.whole

-- where the peer speaks one stream
pub honest-of : (left : Option (List ℕ)) (task : ExtractTask) (status : ℕ) (A : List ℕ → Type 0)
    → (status ≡ 0 → IfSome left (λ input. (text : List ℕ) × Succeeded task input text × A text))
    → (status ≡ 1 → IfSome left (λ input. (text : List ℕ) × EndedOtherwise task input text × A text))
    → IfSome left (λ input. (irs : ℕ) (heard : List (Option Segment)) (stream : List ℕ) → HasHonestPeer input irs heard stream
    → (status ≡ 0 → Succeeds task.buffer irs heard)
    × (status ≡ 1 → Succeeds task.buffer irs heard → ⊥)
    × (status ≡ 0 → task.emit ≡ Image → (body : List ℕ) × IsWhole stream true 200 body × A body))
honest-of None task status A success otherwise = tt
honest-of (Some input) task status A success otherwise = λ irs heard stream h. (
  (λ zero. comes-to-hold task input (success zero).0 irs heard stream (success zero).1 h),
  (λ one. never-holds task input (otherwise one).0 irs heard stream (otherwise one).1 h),
  (λ zero image. ((success zero).0, whole-of-stream task input (success zero).0 irs heard stream (success zero).1 h image, (success zero).2)),
)
