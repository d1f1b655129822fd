-- What a link in memory gives next.
use Rattle.std.proofs.Common.{◌≡◌, ℕ, ◌+◌, ◌≤◌, List, [], ◌∷◌, ◌++◌, length, take, drop, map, Some, refl, ap, arith}
use Rattle.std.proofs.lemmas.List.{map-append}
use Rattle.efi_link.specs.Tapes.{Tape, at_once, wire_of}
use Rattle.efi_link.specs.Wires.{Gives, with_faults, without_next}

-- the frame behind those that were given is the next one
pub gives-next : (t : Tape) (faults : ℕ) (frame : List ℕ) (rest : List (List ℕ)) → 1 ≤ length frame → drop t.given t.frames ≡ frame ∷ rest
    → drop (t.given + 1) t.frames ≡ rest → take (t.given + 1) t.frames ≡ take t.given t.frames ++ frame ∷ []
    → Gives (with_faults (wire_of t) faults) (with_faults (wire_of (record t { given = t.given + 1 })) faults) frame
unfolding without_next
gives-next t faults [] rest some h k i = absurd (omega (arith, some))
gives-next t faults (octet ∷ octets) rest some h k i =
    rw (h, k, i) (ap (λ gs. record { tries = Some t.tries; given = Some gs; due = Some (map at_once rest); moment = 0; faults = faults }) (map-append at_once (take t.given t.frames) ((octet ∷ octets) ∷ [])), refl)
