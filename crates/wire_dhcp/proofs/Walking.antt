-- Steps over options.
use Rattle.std.proofs.Common.{◌≡◌, ℕ, zero, suc, ◌+◌, ◌-◌, ◌≤◌, ◌<◌, ◌==◌, ◌≢◌, Bool, true, false, nat_le, List, [], ◌∷◌, length, get_or, take, drop, refl, sym, ap, ◌∙◌, Bor, arith}
use Rattle.std.proofs.lemmas.Bool.Decides.{nat_tests}
use Rattle.std.proofs.lemmas.List.{take_rest, length-drop, length-take-le}
use Rattle.wire_dhcp.specs.Options.{Item, items_from, items_in, ends_from, is_ended}
use Rattle.wire_dhcp.specs.declared.options.DhcpOption.{DhcpOption}
use Rattle.wire_dhcp.specs.declared.options.Front.{Front}
use Rattle.wire_dhcp.specs.declared.options.Front.TheVariants.{Whole, End, Cut}
use Rattle.wire_dhcp.specs.Walk.{FrontIs, Begins, HasNone}

pub items_skip : (left : ℕ) (octets : List ℕ) → items_from left octets ≡ items_in (drop left octets)
items_skip zero octets = refl
items_skip (suc left) [] = refl
items_skip (suc left) (octet ∷ octets) = items_skip left octets

pub ends_skip : (left : ℕ) (octets : List ℕ) → ends_from left octets ≡ is_ended (drop left octets)
ends_skip zero octets = refl
ends_skip (suc left) [] = refl
ends_skip (suc left) (octet ∷ octets) = ends_skip left octets

-- the 255
pub at-end : (rest : List ℕ) → 0 < length rest → get_or rest 0 0 ≡ 255 → HasNone rest true
at-end [] h e = absurd (omega arith)
at-end (zero ∷ rest) h e = absurd (omega arith)
at-end (suc c ∷ []) h e = record { items = refl; ended_is = rw e refl }
at-end (suc c ∷ size ∷ rest) h e = record { items = rw e refl; ended_is = rw e refl }

-- a code without a length
pub at-code : (rest : List ℕ) → 0 < length rest → length rest < 2 → 0 < get_or rest 0 0 → get_or rest 0 0 ≢ 255 → HasNone rest false
at-code [] h s z e = absurd (omega arith)
at-code (zero ∷ []) h s z e = absurd (omega arith)
at-code (suc c ∷ []) h s z e =
    let other : (suc c == 255) ≡ false = grind (arith, nat_tests) in
    record { items = refl; ended_is = other }
at-code (d ∷ size ∷ rest) h s z e = absurd (omega arith)

-- a value that runs past the octets
pub at-cut : (rest : List ℕ) → 2 ≤ length rest → length rest < 2 + get_or rest 1 0 → 0 < get_or rest 0 0 → get_or rest 0 0 ≢ 255 → HasNone rest false
at-cut [] h s z e = absurd (omega arith)
at-cut (d ∷ []) h s z e = absurd (omega arith)
at-cut (zero ∷ size ∷ rest) h s z e = absurd (omega arith)
at-cut (suc c ∷ size ∷ rest) h s z e =
    let other : (suc c == 255) ≡ false = grind (arith, nat_tests) in
    let long : nat_le size (length rest) ≡ false = grind (arith, nat_tests) in
    record { items = rw (other, long) refl; ended_is = rw other (runs-out size rest (omega arith)) }
  where
    runs-out : (left : ℕ) (octets : List ℕ) → length octets < left → ends_from left octets ≡ false
    runs-out left [] h = refl
    runs-out zero (octet ∷ octets) h = absurd (omega arith)
    runs-out (suc left) (octet ∷ octets) h = runs-out left octets (omega arith)

-- a whole option
pub at-option : (rest : List ℕ) (stop : ℕ) → 2 ≤ length rest → stop ≡ 2 + get_or rest 1 0 → stop ≤ length rest → 0 < get_or rest 0 0 → get_or rest 0 0 ≢ 255
    → Begins rest (record { code = get_or rest 0 0; value = take (stop - 2) (drop 2 rest) }) (take (length rest - stop) (drop stop rest))
at-option [] stop h s l z e = absurd (omega arith)
at-option (d ∷ []) stop h s l z e = absurd (omega arith)
at-option (zero ∷ size ∷ rest) stop h s l z e = absurd (omega arith)
at-option (suc c ∷ size ∷ rest) stop h s l z e =
    let other : (suc c == 255) ≡ false = grind (arith, nat_tests) in
    let long : nat_le size (length rest) ≡ true = grind (arith, nat_tests) in
    let two : 2 + size ≡ suc (suc size) = omega arith in
    let few : suc (suc size) - 2 ≡ size = omega arith in
    let after : take (length (suc c ∷ size ∷ rest) - stop) (drop stop (suc c ∷ size ∷ rest)) ≡ drop size rest =
    take_rest (suc c ∷ size ∷ rest) stop ∙ ap (λ n. drop n (suc c ∷ size ∷ rest)) (s ∙ two) in
    record {
      items = rw (after, s, two, few, other, long) (ap (λ l. record { code = suc c; value = take size rest } ∷ l) (items_skip size rest));
      ended = rw (after, other) (ends_skip size rest);
      shorter = rw (after, s, two, few) (omega (arith, length-take-le size rest, length-drop size rest));
    }

-- the same behind padding
pub behind-none : (rest octets : List ℕ) (ended : Bool) → items_in rest ≡ items_in octets → is_ended rest ≡ is_ended octets → HasNone rest ended → HasNone octets ended
behind-none rest octets ended i e h = record { items = sym i ∙ h.items; ended_is = sym e ∙ h.ended_is }

pub behind-option : (rest octets later : List ℕ) (item : Item) → items_in rest ≡ items_in octets → is_ended rest ≡ is_ended octets → length rest ≤ length octets
    → Begins rest item later → Begins octets item later
behind-option rest octets later item i e l h = record { items = sym i ∙ h.items; ended = sym e ∙ h.ended; shorter = omega (arith, l, h.shorter) }

-- no option stands in front
pub none-there : (octets : List ℕ) (front : Front) → FrontIs octets front → ((option : DhcpOption) → (behind : Bor (List ℕ)) → front ≢ Whole option behind)
    → items_in octets ≡ []
none-there octets (Whole option behind) h other = absurd (other option behind refl)
none-there octets End h other = h.items
none-there octets Cut h other = h.items
