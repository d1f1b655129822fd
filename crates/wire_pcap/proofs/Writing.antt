-- What is written is in the grammar.
use Rattle.std.proofs.Common.{◌≡◌, ℕ, ◌<◌, ◌≤◌, List, [], ◌∷◌, ◌++◌, length, map, refl, sym, ap, ◌∙◌, arith}
use Rattle.std.specs.List.{flat_map, AllByRecursion}
use Rattle.std.proofs.lemmas.List.{append-nil}
use Rattle.efi_base.specs.declared.plain.Record.{Record}
use Rattle.wire_pcap.specs.Grammar.{Little, number_text, IsHeader, IsStored, record_text, IsCapture, little_micros}
use Rattle.wire_pcap.specs.Written.{header_text, stored_of, written_text, capture_text, IsTold, Fits}

pub header_is : IsHeader little_micros header_text
header_is = record {
  free = number_text Little 4 0 ++ (number_text Little 4 0 ++ number_text Little 4 262144);
  twelve = refl;
  text = refl;
}

pub told : (r : Record) → Fits r → IsTold r (stored_of r)
told r f =
    let t : ℕ = r.tick.0 in
    let tick : t < 4294967296000 = f.tick in
    let few : length r.frame ≤ 262144 = f.frame in
    record {
      is_stored = record {
        secs = omega (arith, tick);
        fraction = omega arith;
        wire_length = omega (arith, few);
        frame = few;
      };
      time = omega arith;
      same_frame = refl;
    }

each_told : (rs : List Record) → AllByRecursion Fits rs → AllByRecursion IsStored (map stored_of rs)
each_told [] fits = tt
each_told (r ∷ rs) fits = ((told r fits.0).is_stored, each_told rs fits.1)

text_told : (rs : List Record) → flat_map written_text rs ≡ flat_map (record_text Little) (map stored_of rs)
text_told [] = refl
text_told (r ∷ rs) = ap (λ (t : List ℕ). written_text r ++ t) (text_told rs)

-- what is written of records is a capture of them
pub written_capture : (rs : List Record) → AllByRecursion Fits rs → IsCapture little_micros (capture_text rs) (map stored_of rs)
written_capture rs fits = record {
  header = header_text;
  is_header = header_is;
  each = each_told rs fits;
  text = ap (λ (t : List ℕ). header_text ++ t) (text_told rs ∙ sym (append-nil (flat_map (record_text Little) (map stored_of rs))));
}
