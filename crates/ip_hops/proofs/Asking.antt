-- The requests that a tick brings for one next hop.
use Rattle.std.proofs.Common.{◌≡◌, refl, sym, ◌∙◌, ap, arith, ℕ, ◌+◌, Bool, true, false, ◌==◌, ◌&&◌, ◌||◌, not, List, [], ◌∷◌, map, filter, cond}
use Rattle.std.specs.List.{list_any}
use Rattle.std.proofs.lemmas.List.Sums.{sum_by-append, sum_by-cons}
use Rattle.std.proofs.lemmas.Bool.Decides.{nat_tests}
use Rattle.efi_base.specs.declared.plain.Ip4.{Ip4}
use Rattle.ip_hops.specs.declared.round.Round.{Round}
use Rattle.ip_hops.specs.declared.round.Ask.{Ask}
use Rattle.ip_hops.specs.Rounds.{is_round_of, asks_again, ask_of}
use Rattle.ip_hops.specs.Unresolved.{Unresolved, nothing_waits}
use Rattle.ip_hops.specs.Acts.{Act, Pass, after, runs, has_one_each, asks_for, hop_asks_again}
use Rattle.ip_hops.proofs.Sound.{sound_runs}

abbrev one : Ip4 → Ask → ℕ
one hop q = cond (q.hop.0 == hop.0) 1 0

none-asks : (m : ℕ) (hop : Ip4) (rs : List Round) → list_any (is_round_of hop) rs ≡ false → asks_for hop (map ask_of (filter (asks_again m) rs)) ≡ 0
none-asks m hop [] h = refl
none-asks m hop (r ∷ rs) h = by (asks_again m r) (is_round_of hop r) refl refl (none-asks m hop rs)
  where
    by : (b c : Bool) → asks_again m r ≡ b → is_round_of hop r ≡ c
        → (list_any (is_round_of hop) rs ≡ false → asks_for hop (map ask_of (filter (asks_again m) rs)) ≡ 0) → asks_for hop (map ask_of (filter (asks_again m) (r ∷ rs))) ≡ 0
    by b true e f more = absurd (grind arith)
    by true false e f more =
        let rest : list_any (is_round_of hop) rs ≡ false = sym (ap (λ c. c || list_any (is_round_of hop) rs) f) ∙ h in
        let bit : one hop (ask_of r) ≡ 0 = ap (λ c. cond c 1 0) f in
        ap (λ b. asks_for hop (map ask_of (cond b (r ∷ filter (asks_again m) rs) (filter (asks_again m) rs)))) e
        ∙ omega (arith, bit, more rest, sum_by-cons (one hop) (ask_of r) (map ask_of (filter (asks_again m) rs)))
    by false false e f more =
        let rest : list_any (is_round_of hop) rs ≡ false = sym (ap (λ c. c || list_any (is_round_of hop) rs) f) ∙ h in
        ap (λ b. asks_for hop (map ask_of (cond b (r ∷ filter (asks_again m) rs) (filter (asks_again m) rs)))) e ∙ more rest

none-again : (m : ℕ) (hop : Ip4) (rs : List Round) → list_any (is_round_of hop) rs ≡ false → hop_asks_again m rs hop ≡ false
none-again m hop [] h = refl
none-again m hop (r ∷ rs) h = by (is_round_of hop r) refl (none-again m hop rs)
  where
    by : (c : Bool) → is_round_of hop r ≡ c → (list_any (is_round_of hop) rs ≡ false → hop_asks_again m rs hop ≡ false) → hop_asks_again m (r ∷ rs) hop ≡ false
    by true f more = absurd (grind arith)
    by false f more =
        let rest : list_any (is_round_of hop) rs ≡ false = sym (ap (λ c. c || list_any (is_round_of hop) rs) f) ∙ h in
        ap (λ c. (c && asks_again m r) || hop_asks_again m rs hop) f ∙ more rest

same-hop : (hop : Ip4) (r : Round) → is_round_of hop r ≡ true → hop ≡ r.hop
same-hop hop r h = grind (arith, nat_tests)

tick-asks : (m : ℕ) (hop : Ip4) (rs : List Round) → has_one_each rs ≡ true
    → asks_for hop (map ask_of (filter (asks_again m) rs)) ≡ cond (hop_asks_again m rs hop) 1 0
tick-asks m hop [] h = refl
tick-asks m hop (r ∷ rs) h = by (is_round_of hop r) (asks_again m r) refl refl (tick-asks m hop rs)
  where
    others : (a b : Bool) → (not a && b) ≡ true → a ≡ false
    others true b h = absurd (cc)
    others false b h = refl

    rest : (a b : Bool) → (a && b) ≡ true → b ≡ true
    rest true b h = h
    rest false b h = absurd (cc)

    by : (c b : Bool) → is_round_of hop r ≡ c → asks_again m r ≡ b
        → (has_one_each rs ≡ true → asks_for hop (map ask_of (filter (asks_again m) rs)) ≡ cond (hop_asks_again m rs hop) 1 0)
        → asks_for hop (map ask_of (filter (asks_again m) (r ∷ rs))) ≡ cond (hop_asks_again m (r ∷ rs) hop) 1 0
    by true true f e ih =
        let at : hop ≡ r.hop = same-hop hop r f in
        let none : list_any (is_round_of hop) rs ≡ false = ap (λ x. list_any (is_round_of x) rs) at ∙ others (list_any (is_round_of r.hop) rs) (has_one_each rs) h in
        let bit : one hop (ask_of r) ≡ 1 = ap (λ c. cond c 1 0) f in
        ap (λ b. asks_for hop (map ask_of (cond b (r ∷ filter (asks_again m) rs) (filter (asks_again m) rs)))) e
        ∙ omega (arith, bit, none-asks m hop rs none, sum_by-cons (one hop) (ask_of r) (map ask_of (filter (asks_again m) rs)))
        ∙ sym (ap (λ c. cond ((c && asks_again m r) || hop_asks_again m rs hop) 1 0) f ∙ ap (λ b. cond (b || hop_asks_again m rs hop) 1 0) e)
    by true false f e ih =
        let at : hop ≡ r.hop = same-hop hop r f in
        let none : list_any (is_round_of hop) rs ≡ false = ap (λ x. list_any (is_round_of x) rs) at ∙ others (list_any (is_round_of r.hop) rs) (has_one_each rs) h in
        ap (λ b. asks_for hop (map ask_of (cond b (r ∷ filter (asks_again m) rs) (filter (asks_again m) rs)))) e
        ∙ none-asks m hop rs none
        ∙ sym (ap (λ c. cond ((c && asks_again m r) || hop_asks_again m rs hop) 1 0) f ∙ ap (λ b. cond (b || hop_asks_again m rs hop) 1 0) e ∙ ap (λ b. cond b 1 0) (none-again m hop rs none))
    by false true f e ih =
        let bit : one hop (ask_of r) ≡ 0 = ap (λ c. cond c 1 0) f in
        let more = ih (rest (not (list_any (is_round_of r.hop) rs)) (has_one_each rs) h) in
        ap (λ b. asks_for hop (map ask_of (cond b (r ∷ filter (asks_again m) rs) (filter (asks_again m) rs)))) e
        ∙ omega (arith, bit, sum_by-cons (one hop) (ask_of r) (map ask_of (filter (asks_again m) rs)))
        ∙ more
        ∙ sym (ap (λ c. cond ((c && asks_again m r) || hop_asks_again m rs hop) 1 0) f)
    by false false f e ih =
        let more = ih (rest (not (list_any (is_round_of r.hop) rs)) (has_one_each rs) h) in
        ap (λ b. asks_for hop (map ask_of (cond b (r ∷ filter (asks_again m) rs) (filter (asks_again m) rs)))) e
        ∙ more
        ∙ sym (ap (λ c. cond ((c && asks_again m r) || hop_asks_again m rs hop) 1 0) f)

pub asks_tick : {M : Type 0} (acts : List (Act M)) (hop : Ip4)
    → asks_for hop (after (runs nothing_waits acts) Pass).asks
    ≡ asks_for hop (runs nothing_waits acts).asks + cond (hop_asks_again ((runs nothing_waits acts).moment + 1) (runs nothing_waits acts).rounds hop) 1 0
asks_tick {M} acts hop =
    let s : Unresolved M = runs nothing_waits acts in
    sum_by-append (one hop) s.asks (map ask_of (filter (asks_again (s.moment + 1)) s.rounds))
    ∙ ap (λ n. asks_for hop s.asks + n) (tick-asks (s.moment + 1) hop s.rounds (sound_runs acts).one)
