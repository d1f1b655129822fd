-- When a segment stands there, by what its readers test one after the other.
use Rattle.std.proofs.Common.{◌≡◌, ℕ, ◌^◌, ◌&&◌, Bool, true, false, nat_le, nat_lt, List, [], length, Option, Some, None, is_some, unwrap_or, if◌then◌else◌, refl, ap, ◌∙◌}
use Rattle.std.specs.Option.{option_map}
use Rattle.wire_l4.specs.Options.{Item}
use Rattle.wire_l4.specs.Parts.{has_header, segment_with}
use Rattle.wire_l4.specs.Segment.{data_offset, has_segment, has_right_sum, options_of, segment_in, segment_of, unverified_segment_of}
use Rattle.wire_l4.specs.Walk.{Known, known_in}

all-five : (a b c d e : Bool) → (a && (b && (c && (d && e)))) ≡ ((a && (b && (c && d))) && e)
all-five false b c d e = refl
all-five true false c d e = refl
all-five true true false d e = refl
all-five true true true false e = refl
all-five true true true true e = refl

-- a header, and well-formed options
segment-parts : (bytes : List ℕ) → has_segment bytes ≡ (has_header bytes && is_some (options_of bytes))
segment-parts bytes =
    all-five (nat_le 20 (length bytes)) (nat_lt (length bytes) (2 ^ 16)) (nat_le 20 (data_offset bytes))
    (nat_le (data_offset bytes) (length bytes)) (is_some (options_of bytes))

none-first : {A : Type 0} (all first second : Bool) (x : A) → all ≡ (first && second) → first ≡ false → (if all then Some x else None) ≡ None
none-first all first second x a f = rw (a, f) refl

none-second : {A : Type 0} (all first second : Bool) (x : A) → all ≡ (first && second) → second ≡ false → (if all then Some x else None) ≡ None
none-second all true second x a f = rw (a, f) refl
none-second all false second x a f = rw a refl

none-both : {A : Type 0} (all first second third : Bool) (x : A) → all ≡ (first && second) → first ≡ false → (if all && third then Some x else None) ≡ None
none-both all first second third x a f = rw (a, f) refl

none-third : {A : Type 0} (all third : Bool) (x : A) → third ≡ false → (if all && third then Some x else None) ≡ None
none-third true third x t = rw t refl
none-third false third x t = refl

same-third : {A : Type 0} (all third : Bool) (x : A) → third ≡ true → (if all && third then Some x else None) ≡ (if all then Some x else None)
same-third true third x t = rw t refl
same-third false third x t = refl

some-both : {A : Type 0} (all first second : Bool) (x : A) → all ≡ (first && second) → first ≡ true → second ≡ true → (if all then Some x else None) ≡ Some x
some-both all first second x a f s = rw (a, f, s) refl

no-items : (items : Option (List Item)) → option_map known_in items ≡ None → is_some items ≡ false
no-items None e = refl
no-items (Some items) e = cc

pub no-header : (bytes : List ℕ) → has_header bytes ≡ false → unverified_segment_of bytes ≡ None
unfolding unverified_segment_of
no-header bytes h = none-first (has_segment bytes) (has_header bytes) (is_some (options_of bytes)) (segment_in bytes) (segment-parts bytes) h

pub no-options : (bytes : List ℕ) → option_map known_in (options_of bytes) ≡ None → unverified_segment_of bytes ≡ None
unfolding unverified_segment_of
no-options bytes o = none-second (has_segment bytes) (has_header bytes) (is_some (options_of bytes)) (segment_in bytes) (segment-parts bytes) (no-items _ o)

pub no-header-between : (src dest : ℕ) (bytes : List ℕ) → has_header bytes ≡ false → segment_of src dest bytes ≡ None
unfolding segment_of
no-header-between src dest bytes h =
    none-both (has_segment bytes) (has_header bytes) (is_some (options_of bytes)) (has_right_sum src dest bytes) (segment_in bytes)
    (segment-parts bytes) h

pub wrong-sum : (src dest : ℕ) (bytes : List ℕ) → has_right_sum src dest bytes ≡ false → segment_of src dest bytes ≡ None
unfolding segment_of
wrong-sum src dest bytes s = none-third (has_segment bytes) (has_right_sum src dest bytes) (segment_in bytes) s

pub right-sum : (src dest : ℕ) (bytes : List ℕ) → has_right_sum src dest bytes ≡ true → segment_of src dest bytes ≡ unverified_segment_of bytes
unfolding segment_of unverified_segment_of
right-sum src dest bytes s = same-third (has_segment bytes) (has_right_sum src dest bytes) (segment_in bytes) s

known-some : (items : Option (List Item)) (k : Known) → option_map known_in items ≡ Some k
    → (is_some items ≡ true) × (known_in (unwrap_or items []) ≡ k)
known-some None k e = absurd (cc)
known-some (Some items) k e = (refl, cc)

segment-known : (bytes : List ℕ) (k : Known) → known_in (unwrap_or (options_of bytes) []) ≡ k → segment_in bytes ≡ segment_with bytes k
unfolding segment_with known_in
segment-known bytes k e = rw (← e) refl

pub has-segment : (bytes : List ℕ) (k : Known) → has_header bytes ≡ true → option_map known_in (options_of bytes) ≡ Some k
    → unverified_segment_of bytes ≡ Some (segment_with bytes k)
unfolding unverified_segment_of
has-segment bytes k h o =
    let there = known-some (options_of bytes) k o in
    some-both (has_segment bytes) (has_header bytes) (is_some (options_of bytes)) (segment_in bytes) (segment-parts bytes) h there.0 ∙ ap (λ s. Some s) (segment-known bytes k there.1)
