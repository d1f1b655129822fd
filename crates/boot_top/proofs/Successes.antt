-- What was seen of a capture is what is written for it.
use Rattle.std.proofs.Common.{◌≡◌, ℕ, true, false, List, [], length, refl, sym, subst, ap, ◌∙◌}
use Rattle.efi_base.specs.declared.plain.Record.{Record}
use Rattle.boot_words.specs.declared.task.Emit.TheVariants.{Report, Image}
use Rattle.doc_text.specs.Reports.{report_text}
use Rattle.wire_pcap.specs.Reading.{IsWhole as IsWholeCapture}
use Rattle.efi_base.specs.declared.load_end.LoadEnd.{LoadEnd}
use Rattle.efi_base.specs.declared.load_end.LoadEnd.TheVariants.{Success, NoOffer, NoAck, Nak, BadUri, Unsupported, NoDns, NameError, NoAddress, DnsTimeout, NoRoute, NoMapping, Refused}
use Rattle.efi_base.specs.declared.load_end.LoadEnd.TheVariants.{ConnectTimeout, SendTimeout, BadResponse, TooManyRedirects, HttpStatus, Coding, BufferTooSmall, Truncated, Reset, Idle, OutOfTime, Aborted, OutOfResources, NoConnection}
use Rattle.tap_core.specs.declared.passive.Seen.{Seen}
use Rattle.tap_core.specs.Shows.{Telling, Shows}
use Rattle.tap_core.specs.Watching.{IsSeen}
use Rattle.tap_core.proofs.Honest.{success-whole}
use Rattle.boot_top.specs.Extract.{Succeeded, EndedOtherwise, IsImage, is_success}
use Rattle.boot_top.specs.Reports.{report_of}

-- a success has a number
pub number-of : (e : LoadEnd) → is_success e ≡ true → (n : ℕ) × (e ≡ Success n)
number-of (Success n) s = (n, refl)
number-of (NoOffer n) s = absurd (cc)
number-of NoAck s = absurd (cc)
number-of Nak s = absurd (cc)
number-of BadUri s = absurd (cc)
number-of (Unsupported n) s = absurd (cc)
number-of NoDns s = absurd (cc)
number-of (NameError n) s = absurd (cc)
number-of NoAddress s = absurd (cc)
number-of DnsTimeout s = absurd (cc)
number-of NoRoute s = absurd (cc)
number-of NoMapping s = absurd (cc)
number-of Refused s = absurd (cc)
number-of ConnectTimeout s = absurd (cc)
number-of SendTimeout s = absurd (cc)
number-of (BadResponse n) s = absurd (cc)
number-of TooManyRedirects s = absurd (cc)
number-of (HttpStatus n) s = absurd (cc)
number-of (Coding n) s = absurd (cc)
number-of (BufferTooSmall n) s = absurd (cc)
number-of (Truncated n) s = absurd (cc)
number-of Reset s = absurd (cc)
number-of Idle s = absurd (cc)
number-of OutOfTime s = absurd (cc)
number-of Aborted s = absurd (cc)
number-of OutOfResources s = absurd (cc)
number-of NoConnection s = absurd (cc)

-- a download that is shown to end with success has a body
success-image : (most : ℕ) (records : List Record) (t : Telling) → Shows most records t → is_success t.end ≡ true → (body : List ℕ) × IsImage most t body
success-image most records t shows s =
    let n = number-of t.end s in
    let w = success-whole most records t n.0 shows n.1 in
    (w.0, record { ended = n.1 ∙ ap Success w.2; whole = w.1; fits = w.3 })

-- what was seen has the image
pub seen-image : (most : ℕ) (bytes : List ℕ) (records : List Record) (s : Seen) (text : List ℕ) → IsWholeCapture bytes [] records → IsSeen most records s
    → is_success s.shown.end ≡ true → text ≡ s.body → Succeeded (record { emit = Image; buffer = most }) bytes text
seen-image most bytes records s text capture seen success text_is =
    let t = seen.telling in
    let end : is_success t.end ≡ true = subst (λ e. is_success e ≡ true) seen.seen.tells.end_is success in
    let h = success-image most records t seen.shows end in
    let same : h.0 ≡ text = sym (seen.seen.body (length h.0) h.1.ended h.0 h.1.whole h.1.fits) ∙ sym text_is in
    record {
      telling = t;
      extracts = record { records = records; capture = capture; shows = seen.shows };
      succeeded = end;
      output = subst (λ (b : List ℕ). IsImage most t b) same h.1;
    }

-- what was seen ends otherwise, and there is no image
pub seen-otherwise : (most : ℕ) (bytes : List ℕ) (records : List Record) (s : Seen) (text : List ℕ) → IsWholeCapture bytes [] records → IsSeen most records s
    → is_success s.shown.end ≡ false → text ≡ [] → EndedOtherwise (record { emit = Image; buffer = most }) bytes text
seen-otherwise most bytes records s text capture seen otherwise nothing = record {
  telling = seen.telling;
  extracts = record { records = records; capture = capture; shows = seen.shows };
  otherwise = subst (λ e. is_success e ≡ false) seen.seen.tells.end_is otherwise;
  output = nothing;
}

-- the report of a success
pub report-success : (most : ℕ) (bytes : List ℕ) (records : List Record) (t : Telling) (text : List ℕ) → IsWholeCapture bytes [] records → Shows most records t
    → is_success t.end ≡ true → text ≡ report_text (report_of t) → Succeeded (record { emit = Report; buffer = most }) bytes text
report-success most bytes records t text capture shows success text_is = record {
  telling = t;
  extracts = record { records = records; capture = capture; shows = shows };
  succeeded = success;
  output = text_is;
}

-- and of a download that ends otherwise
pub report-otherwise : (most : ℕ) (bytes : List ℕ) (records : List Record) (t : Telling) (text : List ℕ) → IsWholeCapture bytes [] records → Shows most records t
    → is_success t.end ≡ false → text ≡ report_text (report_of t) → EndedOtherwise (record { emit = Report; buffer = most }) bytes text
report-otherwise most bytes records t text capture shows otherwise text_is = record {
  telling = t;
  extracts = record { records = records; capture = capture; shows = shows };
  otherwise = otherwise;
  output = text_is;
}
