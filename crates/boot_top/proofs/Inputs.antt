-- What is known of an input that was read in pieces.
use Rattle.std.proofs.Common.{◌≡◌, ◌⊎◌, ℕ, List, [], ◌++◌, Some, None, OnOk, Result, Ok, Err, inl, inr, sym, subst, ap, ◌∙◌}
use Rattle.std.proofs.lemmas.List.{append-nil}
use Rattle.efi_base.specs.declared.plain.Record.{Record}
use Rattle.wire_pcap.specs.Grammar.{IsCapture}
use Rattle.wire_pcap.specs.Reading.{Reading, HasRead, HasStopped, IsNewFault, IsUnfinished, IsWhole}
use Rattle.tap_core.specs.declared.passive.Seen.{Seen}
use Rattle.tap_core.specs.declared.tapping.Tap.{Tap}
use Rattle.tap_core.specs.Tapping.{HasHeard}
use Rattle.tap_core.specs.Watching.{IsSeen}
use Rattle.wire_pcap.specs.Place.{IsThePlace}
use Rattle.efi_base.specs.declared.fault.NoMemory.{NoMemory}
use Rattle.wire_pcap.specs.declared.fault.CapFault.{CapFault}
use Rattle.wire_pcap.specs.declared.fault.CapFault.TheVariants.{BadAt, OutOfResources}
use Rattle.boot_top.specs.Extract.{IsRefused}
use Rattle.boot_top.specs.Streaming.{HearsAll, IsStopped}

-- a fault that was told of these octets
pub refused-at-once : (octets : List ℕ) (n : ℕ) → IsNewFault octets (BadAt n) → IsRefused octets n
refused-at-once octets n f = record {
  place = f.0;
  none = λ records w. f.1 (record { form = w.form; more = []; records = w.records; capture = subst (λ b. IsCapture w.form b w.records) (sym (append-nil octets)) w.capture });
}

place_told : CapFault → ℕ
place_told (BadAt n) = n
place_told OutOfResources = 0

-- the places of a fault are one
pub place-one : (n m : ℕ) → BadAt n ≡ BadAt m → n ≡ m
unfolding place_told
place-one n m e = ap place_told e

-- a fault that was told at the end
pub refused-at-end : (octets : List ℕ) (n : ℕ) (e : CapFault) → e ≡ BadAt n → IsUnfinished octets e → IsRefused octets n
refused-at-end octets n e is u =
    let same : u.place ≡ n = place-one u.place n (sym u.told ∙ is) in
    record {
      place = subst (IsThePlace octets) same u.bad;
      none = λ records w. u.none w.form w.records w.capture;
    }

-- all that was given is all that the capture has
pub all-given : (fed : List ℕ) (given ready : List Record) → IsWhole fed given ready → ready ≡ [] → IsWhole fed [] given
all-given fed given ready w none = record {
  form = w.form;
  records = w.records;
  capture = w.capture;
  records_are = sym (append-nil given) ∙ ap (λ (r : List Record). given ++ r) (sym none) ∙ w.records_are;
}

-- a reader that told no fault, and of which all was heard
pub heard-whole : (most : ℕ) (fed : List ℕ) (reader : Reading) (tap : Tap) (seen : Seen) → HearsAll most fed reader tap ⊎ IsStopped fed reader → reader.fault ≡ None
    → ((fed : List ℕ) (given : List Record) → HasRead fed given reader → IsWhole fed given reader.ready)
    → ((most : ℕ) (records : List Record) → HasHeard most records tap → IsSeen most records seen)
    → (records : List Record) × IsWhole fed [] records × IsSeen most records seen
heard-whole most fed reader tap seen (inl h) none whole saw =
    (h.given, all-given fed h.given reader.ready (whole fed h.given h.read) h.all, saw most h.given h.heard)
heard-whole most fed reader tap seen (inr s) none whole saw =
    let e : Some (BadAt s.place) ≡ None = sym s.stopped.told ∙ none in
    absurd (cc)

-- a reader that told a fault, at the end or before
pub heard-refused : (most : ℕ) (fed : List ℕ) (reader : Reading) (tap : Tap) (n : ℕ) (e : CapFault) → HearsAll most fed reader tap ⊎ IsStopped fed reader → e ≡ BadAt n
    → ((fed : List ℕ) (given : List Record) → HasRead fed given reader → IsUnfinished fed e)
    → ((f : CapFault) → reader.fault ≡ Some f → e ≡ f) → IsRefused fed n
heard-refused most fed reader tap n e (inl h) is refused told = refused-at-end fed n e is (refused fed h.given h.read)
heard-refused most fed reader tap n e (inr s) is refused told =
    let same : s.place ≡ n = place-one s.place n (sym (told (BadAt s.place) s.stopped.told) ∙ is) in
    subst (IsRefused fed) same (refused-at-once fed s.place s.stopped.cause)

-- the fault of an answer
pub fault-one : (result : Result Unit CapFault) (e f : CapFault) → result ≡ Err e → result ≡ Err f → e ≡ f
fault-one result e f a b =
    let both : Err e ≡ Err f = sym a ∙ b in
    cc

-- a piece that is read on in, and heard
pub fed-on : (most : ℕ) (fed piece : List ℕ) (old new later : Reading) (tap heard : Tap) (result : Result Unit NoMemory) (answer : Result Unit CapFault) → HearsAll most fed old tap ⊎ IsStopped fed old
    → (new.fault ≡ None) → (old.fault ≡ None) → ((fed : List ℕ) (given : List Record) → HasRead fed given old → HasRead (fed ++ piece) given new)
    → ((most : ℕ) (fed : List ℕ) (given : List Record) → HasRead fed given new → HasHeard most given tap → OnOk result (HearsAll most fed later heard))
    → OnOk result (HearsAll most (fed ++ piece) later heard ⊎ IsStopped (fed ++ piece) later)
fed-on most fed piece old new later tap heard (Err e) answer watched none before reads hears = tt
fed-on most fed piece old new later tap heard (Ok u) answer (inl h) none before reads hears =
    inl (hears most (fed ++ piece) h.given (reads fed h.given h.read) h.heard)
fed-on most fed piece old new later tap heard (Ok u) answer (inr s) none before reads hears =
    let e : Some (BadAt s.place) ≡ None = sym s.stopped.told ∙ before in
    absurd (cc)

-- a piece at which the reader stops, or had stopped
pub fed-stopped : (most : ℕ) (fed piece : List ℕ) (old new : Reading) (tap : Tap) (e : CapFault) (n : ℕ) → HearsAll most fed old tap ⊎ IsStopped fed old → e ≡ BadAt n
    → ((fed : List ℕ) (given : List Record) → HasRead fed given old → HasStopped (fed ++ piece) given new e)
    → ((fed : List ℕ) (given : List Record) (f : CapFault) → HasStopped fed given old f → HasStopped (fed ++ piece) given new f)
    → HearsAll most (fed ++ piece) new tap ⊎ IsStopped (fed ++ piece) new
fed-stopped most fed piece old new tap e n (inl h) is stops stays =
    inr (record { given = h.given; place = n; stopped = subst (HasStopped (fed ++ piece) h.given new) is (stops fed h.given h.read) })
fed-stopped most fed piece old new tap e n (inr s) is stops stays =
    inr (record { given = s.given; place = s.place; stopped = stays fed s.given (BadAt s.place) s.stopped })
