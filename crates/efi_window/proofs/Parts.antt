-- The part of some bytes that a window keeps.
use Rattle.std.proofs.Common.{◌≡◌, ℕ, ◌+◌, ◌-◌, ◌^◌, ◌<◌, ◌≤◌, ◌==◌, min, max, Bool, false, true, List, [], ◌∷◌, length, take, drop, Option, refl, ap, arith}
use Rattle.std.proofs.lemmas.List.{length-take}
use Rattle.std.proofs.lemmas.Bool.Decides.{nat_tests}
use Rattle.efi_window.specs.Places.{Places, put, held_after, after_put, after_take}

-- a window after a put whose numbers were found one by one
pub put-window : (room cap taken place first edge most : ℕ) (bytes part : List ℕ) (items now : List (Option ℕ))
    → first ≡ max place taken → edge ≡ min (taken + cap) (2 ^ 62) → most ≡ edge - first → part ≡ take most (drop (first - place) bytes)
    → now ≡ put (first - taken) part items
    → record { room = room; cap = cap; taken = taken; held = now } ≡ after_put record { room = room; cap = cap; taken = taken; held = items } place bytes
unfolding held_after
put-window room cap taken place first edge most bytes part items now f e m p n =
    let a : first - taken ≡ place - taken = omega arith in
    let b : first - place ≡ taken - place = omega arith in
    let held : now ≡ put (place - taken) (take (min (taken + cap) (2 ^ 62) - max place taken) (drop (taken - place) bytes)) items = cc in
    let view : List (Option ℕ) → Places = λ l. record { room = room; cap = cap; taken = taken; held = l } in
    ap view held

pub part-length : (most skipped : ℕ) (bytes part : List ℕ) → part ≡ take most (drop skipped bytes) → length part ≤ most
part-length most skipped bytes part e = rw e (omega (arith, length-take most (drop skipped bytes)))

pub part-some : (part : List ℕ) (empty : Bool) → empty ≡ (length part == 0) → empty ≡ false → 0 < length part
part-some [] empty e f = absurd (cc)
part-some (b ∷ part) empty e f = omega arith

pub part-none : (part : List ℕ) (empty : Bool) → empty ≡ (length part == 0) → empty ≡ true → part ≡ []
part-none [] empty e f = refl
part-none (b ∷ part) empty e f = absurd (grind (arith, nat_tests))

-- a window after a take whose slots were found by themselves
pub taken-window : (room cap taken count : ℕ) (items now : List (Option ℕ)) → now ≡ drop count items
    → record { room = room; cap = cap; taken = taken + count; held = now } ≡ after_take record { room = room; cap = cap; taken = taken; held = items } count
taken-window room cap taken count items now e =
    let view : List (Option ℕ) → Places = λ l. record { room = room; cap = cap; taken = taken + count; held = l } in
    ap view e
