-- What several writes or reads do to known octets, one after the other.
use Rattle.std.proofs.Common.{◌≡◌, ℕ, ◌+◌, ◌-◌, ◌<◌, ◌≤◌, min, List, [], Option, ◌++◌, length, take, drop, sym, arith, take-append-drop, length-append, length-drop}
use Rattle.std.proofs.Math.Seq.{take-add}
use Rattle.std.proofs.lemmas.List.{drop-drop, nil_from_length, take_rest}
use Rattle.std.proofs.KnownBytes.{Appends-trans, Consumes-trans}
use Rattle.std.specs.Io.KnownBytes.{Appends, Consumes}
use Rattle.efi_outside.specs.Intake.{TakesAtMost}

-- n octets of the rest are within all of them
pub piece-within : (bytes : List ℕ) (done n : ℕ) → done ≤ length bytes → n ≤ length (take (length bytes - done) (drop done bytes)) → done + n ≤ length bytes
piece-within bytes done n h bound =
    let b : n ≤ length (drop done bytes) = rw take_rest at bound in
    omega (arith, length-drop done bytes)

-- a writer that took the first of the octets, and then n of the rest, took as many more
pub Appends-piece : (a b c : Option (List ℕ)) (bytes : List ℕ) (done n : ℕ) → Appends a b (take done bytes)
    → Appends b c (take n (take (length bytes - done) (drop done bytes))) → Appends a c (take (done + n) bytes)
Appends-piece a b c bytes done n first second =
    rw (take-add done n bytes) (Appends-trans a b c _ _ first (rw take_rest at second))

-- what was taken first, and then at most so many octets
pub TakesAtMost-more : (a b c : Option (List ℕ)) (front : List ℕ) (more most : ℕ) → Consumes a b front → TakesAtMost b c more → length front + more ≤ most → TakesAtMost a c most
TakesAtMost-more a b c front more most first second h =
    let bound : length (front ++ second.0) ≤ most = omega (arith, length-append front second.0, second.2) in
    (front ++ second.0, Consumes-trans a b c front second.0 first second.1, bound)

-- what moved into the front of a room, and what is left behind it
pub front-moved : (octets room : List ℕ) (given n size : ℕ) → n ≡ min (length (drop given octets)) size → length room ≡ size → take n room ≡ take n (drop given octets)
    → (drop given octets ≡ take n room ++ drop (given + n) octets) × (n ≡ 0 → 0 < length room → drop (given + n) octets ≡ [])
front-moved octets room given n size count same copied =
    let behind : drop n (drop given octets) ≡ drop (given + n) octets = drop-drop n given octets in
    let whole = take-append-drop n (drop given octets) in
    (rw (← behind, copied) (sym whole), λ none some. nil_from_length _ (omega (arith, length-drop given octets, length-drop (given + n) octets)))
