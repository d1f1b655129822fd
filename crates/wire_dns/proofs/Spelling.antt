-- A zero, a label or a pointer in front of the octets behind it.
use Rattle.std.proofs.Common.{◌≡◌, ℕ, zero, suc, ◌+◌, ◌-◌, ◌%◌, ◌<◌, ◌≤◌, ◌==◌, Bool, true, false, nat_lt, List, [], ◌∷◌, length, get_or, take, drop, Option, None, if◌then◌else◌, refl, sym, ap, ◌∙◌, arith}
use Rattle.std.proofs.lemmas.Bool.Decides.{nat_tests}
use Rattle.std.specs.Option.{option_map}
use Rattle.byteorder.specs.Endian.{big_number}
use Rattle.wire_dns.specs.Names.{spelled, spelled_size}
use Rattle.wire_dns.specs.Parts.{Ends, Begins, Leads, followed}
use Rattle.std.proofs.lemmas.List.{length-take}
use Rattle.wire_dns.proofs.Options.{if-true, if-false, followed-twice, followed-nothing}

-- the octets of a label, and what follows them
pub label-more : (led : ℕ → Option (List ℕ)) (n : ℕ) (octets : List ℕ) → n ≤ length octets
    → spelled led n octets ≡ followed (take n octets) (spelled led zero (drop n octets))
unfolding spelled
label-more led zero octets h = sym (followed-nothing (spelled led zero octets))
label-more led (suc n) [] h = absurd (omega arith)
label-more led (suc n) (c ∷ octets) h =
    ap (followed (c ∷ [])) (label-more led n octets (omega arith)) ∙ followed-twice (c ∷ []) (take n octets) (spelled led zero (drop n octets))

label-short : (led : ℕ → Option (List ℕ)) (n : ℕ) (octets : List ℕ) → length octets < n → spelled led n octets ≡ None
unfolding spelled
label-short led zero octets h = absurd (omega arith)
label-short led (suc n) [] h = refl
label-short led (suc n) (c ∷ octets) h = ap (followed (c ∷ [])) (label-short led n octets (omega arith))

pub label-size : (n : ℕ) (octets : List ℕ) → n ≤ length octets → spelled_size n octets ≡ n + spelled_size zero (drop n octets)
unfolding spelled_size
label-size zero octets h = grind arith
label-size (suc n) [] h = absurd (omega arith)
label-size (suc n) (c ∷ octets) h = let e = label-size n octets (omega arith) in omega (arith, e)

not-zero : (c : ℕ) → 0 < c → (c == 0) ≡ false
not-zero c h = grind (arith, nat_tests)

is-less : (c n : ℕ) → c < n → nat_lt c n ≡ true
is-less c n h = grind (arith, nat_tests)

not-less : (c n : ℕ) → n ≤ c → nat_lt c n ≡ false
not-less c n h = grind (arith, nat_tests)

-- the octet is a label's length
pub in-label : (led : ℕ → Option (List ℕ)) (c : ℕ) (octets : List ℕ) → 0 < c → c < 64
    → spelled led zero (c ∷ octets) ≡ option_map (λ text. 46 ∷ text) (spelled led c octets)
unfolding spelled
in-label led c octets some short = if-false (c == 0) _ _ (not-zero c some) ∙ if-true (nat_lt c 64) _ _ (is-less c 64 short)

pub in-label-size : (c : ℕ) (octets : List ℕ) → 0 < c → c < 64 → spelled_size zero (c ∷ octets) ≡ suc (spelled_size c octets)
unfolding spelled_size
in-label-size c octets some short = if-false (c == 0) _ _ (not-zero c some) ∙ if-true (nat_lt c 64) _ _ (is-less c 64 short)

pub label-begins : (octets : List ℕ) (n : ℕ) → 0 < length octets → get_or octets 0 0 ≡ n → 0 < n → n < 64 → n ≤ length octets - 1
    → Begins octets (take n (drop 1 octets))
label-begins [] n there is some short fits = absurd (omega arith)
label-begins (c ∷ octets) n there is some short fits =
    let few : n ≤ length octets = omega arith in
    let size : length (take n octets) ≡ n = simp length-take (omega arith) in
    record {
      within = omega arith;
      spells = λ led.
          rw is (in-label led n octets some short ∙ ap (followed (46 ∷ [])) (label-more led n octets few) ∙ followed-twice (46 ∷ []) (take n octets) (spelled led zero (drop n octets))
          ∙ ap (λ k. followed (46 ∷ take n octets) (spelled led zero (drop k octets))) (sym size));
      size = rw is (in-label-size n octets some short ∙ ap suc (label-size n octets few) ∙ ap (λ k. suc (k + spelled_size zero (drop k octets))) (sym size) ∙ sym (suc-front (length (take n octets)) (spelled_size zero (drop (length (take n octets)) octets))));
    }
  where
    suc-front : (a b : ℕ) → suc a + b ≡ suc (a + b)
    suc-front a b = omega arith

-- the label is cut short
pub label-cut : (led : ℕ → Option (List ℕ)) (octets : List ℕ) (n : ℕ) → 0 < length octets → get_or octets 0 0 ≡ n → 0 < n → n < 64
    → length octets - 1 < n → spelled led zero octets ≡ None
label-cut led [] n there is some short cut = absurd (omega arith)
label-cut led (c ∷ octets) n there is some short cut =
    rw is (in-label led n octets some short ∙ ap (followed (46 ∷ [])) (label-short led n octets (omega arith)))

pub nothing-there : (led : ℕ → Option (List ℕ)) (octets : List ℕ) → length octets ≤ 0 → spelled led zero octets ≡ None
unfolding spelled
nothing-there led [] h = refl
nothing-there led (c ∷ octets) h = absurd (omega arith)

pub zero-ends : (octets : List ℕ) → 0 < length octets → get_or octets 0 0 ≡ 0 → Ends octets
unfolding spelled spelled_size
zero-ends [] there is = absurd (omega arith)
zero-ends (c ∷ octets) there is = record { within = omega arith; spells = λ led. rw is refl; size = rw is refl }

-- neither a label's length nor a pointer
pub octet-bad : (led : ℕ → Option (List ℕ)) (octets : List ℕ) → 64 ≤ get_or octets 0 0 → get_or octets 0 0 < 192 → spelled led zero octets ≡ None
unfolding spelled
octet-bad led [] high low = refl
octet-bad led (c ∷ octets) high low =
    if-false (c == 0) _ _ (not-zero c (omega arith)) ∙ if-false (nat_lt c 64) _ _ (not-less c 64 high) ∙ if-true (nat_lt c 192) _ _ (is-less c 192 low)

pub pointer-cut : (led : ℕ → Option (List ℕ)) (octets : List ℕ) → 64 ≤ get_or octets 0 0 → length octets < 2 → spelled led zero octets ≡ None
unfolding spelled
pointer-cut led [] high cut = refl
pointer-cut led (c ∷ []) high cut =
    if-false (c == 0) _ _ (not-zero c (omega arith)) ∙ if-false (nat_lt c 64) _ _ (not-less c 64 high) ∙ either (nat_lt c 192)
  where
    either : (b : Bool) → ◌≡◌ {A = Option (List ℕ)} (if b then None else None) None
    either true = refl
    either false = refl
pointer-cut led (c ∷ d ∷ octets) high cut = absurd (omega arith)

pub pointer-leads : (octets : List ℕ) (target : ℕ) → 192 ≤ get_or octets 0 0 → 2 ≤ length octets → target ≡ big_number 2 octets % 16384 → Leads octets target
unfolding spelled spelled_size
pointer-leads [] target high there is = absurd (omega arith)
pointer-leads (c ∷ octets) target high there is = record {
  within = there;
  spells = λ led.
      if-false (c == 0) _ _ (not-zero c (omega arith)) ∙ if-false (nat_lt c 64) _ _ (not-less c 64 (omega arith)) ∙ if-false (nat_lt c 192) _ _ (not-less c 192 high)
      ∙ if-true (nat_lt 0 (length octets)) _ _ (is-less 0 (length octets) (omega arith)) ∙ ap led (sym is);
  size = if-false (c == 0) _ _ (not-zero c (omega arith)) ∙ if-false (nat_lt c 64) _ _ (not-less c 64 (omega arith));
}
