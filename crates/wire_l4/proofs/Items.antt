-- The options behind one of them, and what is known of options one after the other.
use Rattle.std.proofs.Common.{◌≡◌, ℕ, zero, suc, ◌-◌, ◌<◌, ◌≤◌, List, [], ◌∷◌, length, take, drop, slice_index, None, refl, arith}
use Rattle.std.proofs.lemmas.Bool.Decides.{nat_tests}
use Rattle.std.proofs.lemmas.List.{take_all, length-drop}
use Rattle.std.specs.Option.{option_map}
use Rattle.wire_l4.specs.Options.{items_behind, items_of}
use Rattle.wire_l4.specs.Walk.{BeginsWith}

-- octets are passed over one by one
pub behind-drop : (n : ℕ) (bytes : List ℕ) → n ≤ length bytes → items_behind n bytes ≡ items_of (drop n bytes)
behind-drop zero bytes h = refl
behind-drop (suc n) [] h = absurd (omega arith)
behind-drop (suc n) (b ∷ bytes) h = behind-drop n bytes (omega arith)

-- no more than there are
pub behind-none : (n : ℕ) (bytes : List ℕ) → length bytes < n → items_behind n bytes ≡ None
behind-none zero bytes h = absurd (omega arith)
behind-none (suc n) [] h = refl
behind-none (suc n) (b ∷ bytes) h = behind-none n bytes (omega arith)

-- an option that lies within the octets
item-front : (kind len : ℕ) (bytes : List ℕ) → 2 ≤ len → len - 2 ≤ length bytes
    → items_of (suc (suc kind) ∷ len ∷ bytes)
    ≡ option_map (λ items. record { kind = suc (suc kind); value = take (len - 2) bytes } ∷ items) (items_of (drop (len - 2) bytes))
item-front kind len bytes low high = rw (← behind-drop (len - 2) bytes high) (grind (arith, nat_tests))

drop-two : (len a b : ℕ) (bytes : List ℕ) → 2 ≤ len → drop (len - 2) bytes ≡ drop len (a ∷ b ∷ bytes)
drop-two zero a b bytes h = absurd (omega arith)
drop-two (suc zero) a b bytes h = absurd (omega arith)
drop-two (suc (suc n)) a b bytes h = let e : suc (suc n) - 2 ≡ n = omega arith in rw e refl

pub item-begins : (bytes : List ℕ) → 2 ≤ slice_index bytes 0 → 2 ≤ slice_index bytes 1 → slice_index bytes 1 ≤ length bytes
    → BeginsWith bytes (record { kind = slice_index bytes 0; value = take (slice_index bytes 1 - 2) (drop 2 bytes) })
    (take (length bytes - slice_index bytes 1) (drop (slice_index bytes 1) bytes))
unfolding BeginsWith
item-begins [] k low high = absurd (omega arith)
item-begins (a ∷ []) k low high = absurd (omega arith)
item-begins (zero ∷ b ∷ bytes) k low high = absurd (omega arith)
item-begins (suc zero ∷ b ∷ bytes) k low high = absurd (omega arith)
item-begins (suc (suc kind) ∷ b ∷ bytes) k low high =
    let list : List ℕ = suc (suc kind) ∷ b ∷ bytes in
    let whole : take (length list - b) (drop b list) ≡ drop b list = take_all _ _ (omega (arith, length-drop b list)) in
    rw whole (rw (← drop-two b (suc (suc kind)) b bytes low) (item-front kind b bytes low (omega arith)))

-- a length that counts less than itself and the kind
pub item-short : (bytes : List ℕ) → 2 ≤ length bytes → 2 ≤ slice_index bytes 0 → slice_index bytes 1 < 2 → items_of bytes ≡ None
item-short [] l k low = absurd (omega arith)
item-short (a ∷ []) l k low = absurd (omega arith)
item-short (zero ∷ b ∷ bytes) l k low = absurd (omega arith)
item-short (suc zero ∷ b ∷ bytes) l k low = absurd (omega arith)
item-short (suc (suc kind) ∷ b ∷ bytes) l k low = grind (arith, nat_tests)

-- a length that counts more than is there
pub item-long : (bytes : List ℕ) → 2 ≤ length bytes → 2 ≤ slice_index bytes 0 → 2 ≤ slice_index bytes 1 → length bytes < slice_index bytes 1 → items_of bytes ≡ None
item-long [] l k low high = absurd (omega arith)
item-long (a ∷ []) l k low high = absurd (omega arith)
item-long (zero ∷ b ∷ bytes) l k low high = absurd (omega arith)
item-long (suc zero ∷ b ∷ bytes) l k low high = absurd (omega arith)
item-long (suc (suc kind) ∷ b ∷ bytes) l k low high = let e = behind-none (b - 2) bytes (omega arith) in rw e (grind (arith, nat_tests))
