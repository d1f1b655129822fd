-- A capture has its records, and no others.
use Rattle.std.proofs.Common.{◌≡◌, ℕ, List, [], ◌∷◌, ◌++◌, length, drop, refl, sym, ap, subst, ◌∙◌, arith, append_assoc, length-append}
use Rattle.std.specs.List.{flat_map, AllByRecursion}
use Rattle.std.proofs.lemmas.List.{drop_at}
use Rattle.efi_base.specs.declared.plain.Record.{Record}
use Rattle.wire_pcap.specs.Grammar.{Order, Form, Stored, IsStored, record_text, IsCapture, records_of}
use Rattle.wire_pcap.specs.Place.{HasNoRecord}
use Rattle.wire_pcap.specs.Reading.{IsWhole}
use Rattle.wire_pcap.proofs.Texts.{one_front, length-record_text}
use Rattle.wire_pcap.proofs.Headers.{front_at, one_form}
use Rattle.wire_pcap.proofs.Splitting.{behind_header}

-- no record stands at the front of no octets
none_in_none : (order : Order) → HasNoRecord order []
none_in_none order r rest fits e =
    omega (arith, ap length e, length-append (record_text order r) rest, length-record_text order r)

same_records : (order : Order) (rs ts : List Stored) → AllByRecursion IsStored rs → AllByRecursion IsStored ts
    → flat_map (record_text order) rs ++ [] ≡ flat_map (record_text order) ts ++ [] → rs ≡ ts
same_records order [] [] fr ft e = refl
same_records order [] (t ∷ ts) fr ft e =
    absurd (none_in_none order t (flat_map (record_text order) ts ++ []) ft.0 (e ∙ append_assoc (record_text order t) (flat_map (record_text order) ts) []))
same_records order (r ∷ rs) [] fr ft e =
    absurd (none_in_none order r (flat_map (record_text order) rs ++ []) fr.0 (sym e ∙ append_assoc (record_text order r) (flat_map (record_text order) rs) []))
same_records order (r ∷ rs) (t ∷ ts) fr ft e =
    let joined : record_text order r ++ (flat_map (record_text order) rs ++ []) ≡ record_text order t ++ (flat_map (record_text order) ts ++ []) =
    sym (append_assoc (record_text order r) (flat_map (record_text order) rs) []) ∙ e
    ∙ append_assoc (record_text order t) (flat_map (record_text order) ts) [] in
    let one = one_front order r t (flat_map (record_text order) rs ++ []) (flat_map (record_text order) ts ++ []) fr.0 ft.0 joined in
    ap (λ (x : Stored). x ∷ rs) one.same ∙ ap (λ (xs : List Stored). t ∷ xs) (same_records order rs ts fr.1 ft.1 one.rests)

captures_in_one_form : (form : Form) (bytes : List ℕ) (rs ts : List Stored) → IsCapture form bytes rs → IsCapture form bytes ts → rs ≡ ts
captures_in_one_form form bytes rs ts s t =
    same_records form.order rs ts s.each t.each
    (behind_header form s.header t.header (flat_map (record_text form.order) rs ++ []) (flat_map (record_text form.order) ts ++ [])
    s.is_header t.is_header (sym s.text ∙ t.text))

forms_are_one : (f g : Form) (bytes : List ℕ) (rs ts : List Stored) → IsCapture f bytes rs → IsCapture g bytes ts → f ≡ g
forms_are_one f g bytes rs ts s t =
    let this = front_at f s.header (flat_map (record_text f.order) rs ++ []) bytes s.is_header s.text in
    let that = front_at g t.header (flat_map (record_text g.order) ts ++ []) bytes t.is_header t.text in
    one_form f g (sym this ∙ that)

behind_the_same : (xs a b : List Record) → xs ++ a ≡ xs ++ b → a ≡ b
behind_the_same xs a b e =
    sym (drop_at xs a (length xs) refl) ∙ ap (drop (length xs)) e ∙ drop_at xs b (length xs) refl

pub one_whole : (bytes : List ℕ) (given a b : List Record) → IsWhole bytes given a → IsWhole bytes given b → a ≡ b
one_whole bytes given a b v w =
    let form = forms_are_one v.form w.form bytes v.records w.records v.capture w.capture in
    let that : IsCapture v.form bytes w.records = subst (λ (f : Form). IsCapture f bytes w.records) (sym form) w.capture in
    let records = captures_in_one_form v.form bytes v.records w.records v.capture that in
    behind_the_same given a b (
    v.records_are
    ∙ ap (λ (f : Form). records_of f.resolution v.records) form
    ∙ ap (λ (rs : List Stored). records_of w.form.resolution rs) records
    ∙ sym w.records_are
    )
