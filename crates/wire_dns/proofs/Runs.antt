-- Runs of labels, one after the other, and the pointers between them.
use Rattle.std.proofs.Common.{◌≡◌, ℕ, zero, suc, ◌+◌, ◌<◌, ◌≤◌, ◌==◌, ◌⊎◌, inl, inr, nat_le, List, [], ◌∷◌, ◌++◌, length, drop, Option, Some, None, refl, sym, ap, ◌∙◌, arith, length-append}
use Rattle.std.proofs.lemmas.Bool.Decides.{nat_tests}
use Rattle.std.proofs.lemmas.List.{drop-drop, append-nil}
use Rattle.std.specs.Option.{option_map, option_and_then}
use Rattle.wire_dns.specs.Names.{spelled, spelled_size, earlier, kept, name_at, behind_name, name_read}
use Rattle.wire_dns.specs.Parts.{Ends, Begins, Leads, followed, tail_of, NoName}
use Rattle.wire_dns.proofs.Options.{if-true, if-false, followed-twice, followed-nothing}

-- the labels from `at` to `place` were put behind the old text
pub record Walked (msg old : List ℕ) (at : ℕ) (text : List ℕ) (place : ℕ) : Type 0 where
  pub spells : (led : ℕ → Option (List ℕ)) → followed old (spelled led zero (drop at msg)) ≡ followed text (spelled led zero (drop place msg))
  pub size : behind_name msg at ≡ place + spelled_size zero (drop place msg)

pub walk-start : (msg old : List ℕ) (at : ℕ) → Walked msg old at old at
walk-start msg old at = record { spells = λ led. refl; size = refl }

module _ (msg old : List ℕ) (at : ℕ) (text : List ℕ) (place : ℕ) (walked : Walked msg old at text place) where
  pub walk-label : (label new : List ℕ) (next : ℕ) → Begins (drop place msg) label → new ≡ text ++ (46 ∷ label) → next ≡ place + (1 + length label)
      → Walked msg old at new next
  walk-label label new next begins e n =
      let there : place + suc (length label) ≡ next = omega arith in
      let same : drop (suc (length label)) (drop place msg) ≡ drop next msg = drop-drop (suc (length label)) place msg ∙ ap (λ k. drop k msg) there in
      record {
        spells = λ led.
            walked.spells led ∙ ap (followed text) (begins.spells led) ∙ followed-twice text (46 ∷ label) (spelled led zero (drop (suc (length label)) (drop place msg)))
            ∙ ap (λ xs. followed (text ++ (46 ∷ label)) (spelled led zero xs)) same ∙ ap (λ t. followed t (spelled led zero (drop next msg))) (sym e);
        size =
            let size = begins.size in
            let moved : spelled_size zero (drop (suc (length label)) (drop place msg)) ≡ spelled_size zero (drop next msg) = ap (spelled_size zero) same in
            omega (arith, walked.size, size, moved, there);
      }

  pub walk-end : Ends (drop place msg) → (led : ℕ → Option (List ℕ)) → followed old (spelled led zero (drop at msg)) ≡ followed text (tail_of led None)
  walk-end ends led = walked.spells led ∙ ap (followed text) (ends.spells led)

  pub walk-pointer : (target : ℕ) → Leads (drop place msg) target → (led : ℕ → Option (List ℕ)) → followed old (spelled led zero (drop at msg)) ≡ followed text (tail_of led (Some target))
  walk-pointer target leads led = walked.spells led ∙ ap (followed text) (leads.spells led)

  pub walk-bad : ((led : ℕ → Option (List ℕ)) → spelled led zero (drop place msg) ≡ None) → NoName old (drop at msg)
  walk-bad bad led = ap (option_and_then kept) (walked.spells led ∙ ap (followed text) (bad led))

  pub walk-full : (label : List ℕ) → Begins (drop place msg) label → 254 < length text + (1 + length label) → NoName old (drop at msg)
  walk-full label begins full led =
      ap (option_and_then kept) (walked.spells led ∙ ap (followed text) (begins.spells led) ∙ followed-twice text (46 ∷ label) (spelled led zero (drop (suc (length label)) (drop place msg))))
      ∙ long (spelled led zero (drop (suc (length label)) (drop place msg)))
    where
      long : (rest : Option (List ℕ)) → option_and_then kept (followed (text ++ (46 ∷ label)) rest) ≡ None
      long None = refl
      long (Some more) = if-false (nat_le (length ((text ++ (46 ∷ label)) ++ more)) 254) _ _ (grind (arith, nat_tests, length-append (text ++ (46 ∷ label)) more, length-append text (46 ∷ label)))

-- what stands before the limit
before-suc : (msg : List ℕ) (limit place : ℕ) → ((place ≡ limit) ⊎ (place < limit))
    → (place < limit → earlier msg limit place ≡ spelled (earlier msg place) zero (drop place msg))
    → earlier msg (suc limit) place ≡ spelled (earlier msg place) zero (drop place msg)
unfolding earlier
before-suc msg limit place (inl e) below = if-true (place == limit) _ _ (grind (arith, nat_tests)) ∙ ap (λ n. spelled (earlier msg n) zero (drop n msg)) (sym e)
before-suc msg limit place (inr l) below = if-false (place == limit) _ _ (grind (arith, nat_tests)) ∙ below l

pub earlier-there : (msg : List ℕ) (limit place : ℕ) → place < limit → earlier msg limit place ≡ spelled (earlier msg place) zero (drop place msg)
earlier-there msg zero place h = absurd (omega arith)
earlier-there msg (suc limit) place h = before-suc msg limit place (split_at limit place h) (λ l. earlier-there msg limit place l)
  where
    split_at : (limit place : ℕ) → place < suc limit → (place ≡ limit) ⊎ (place < limit)
    split_at limit place h = grind arith

pub earlier-nothing : (msg : List ℕ) (limit place : ℕ) → limit ≤ place → earlier msg limit place ≡ None
unfolding earlier
earlier-nothing msg zero place h = refl
earlier-nothing msg (suc limit) place h = if-false (place == limit) _ _ (grind (arith, nat_tests)) ∙ earlier-nothing msg limit place (omega arith)

-- the text was read so far, and the rest stands where the pointer leads
pub record Pointed (msg : List ℕ) (at : ℕ) (text : List ℕ) (limit : ℕ) (pointer : Option ℕ) : Type 0 where
  pub is : spelled (earlier msg at) zero (drop at msg) ≡ followed text (tail_of (earlier msg limit) pointer)

pub first-run : (msg : List ℕ) (at : ℕ) (none text : List ℕ) (pointer : Option ℕ) → none ≡ []
    → ((led : ℕ → Option (List ℕ)) → followed none (spelled led zero (drop at msg)) ≡ followed text (tail_of led pointer))
    → Pointed msg at text at pointer
first-run msg at none text pointer e run = record {
  is = sym (followed-nothing (spelled (earlier msg at) zero (drop at msg))) ∙ ap (λ t. followed t (spelled (earlier msg at) zero (drop at msg))) (sym e) ∙ run (earlier msg at);
}

pub next-run : (msg : List ℕ) (at : ℕ) (text new : List ℕ) (limit target : ℕ) (pointer : Option ℕ) → Pointed msg at text limit (Some target) → target < limit
    → ((led : ℕ → Option (List ℕ)) → followed text (spelled led zero (drop target msg)) ≡ followed new (tail_of led pointer))
    → Pointed msg at new target pointer
next-run msg at text new limit target pointer before back run = record {
  is = before.is ∙ ap (followed text) (earlier-there msg limit target back) ∙ run (earlier msg target);
}

no-name : (msg : List ℕ) (at : ℕ) → option_and_then kept (spelled (earlier msg at) zero (drop at msg)) ≡ None → name_read msg at ≡ None
unfolding name_at
no-name msg at e = ap (option_map (λ name. (name, behind_name msg at))) e

pub first-bad : (msg : List ℕ) (at : ℕ) (none : List ℕ) → none ≡ [] → NoName none (drop at msg) → name_read msg at ≡ None
first-bad msg at none e bad =
    no-name msg at (ap (option_and_then kept) (sym (followed-nothing (spelled (earlier msg at) zero (drop at msg))) ∙ ap (λ t. followed t (spelled (earlier msg at) zero (drop at msg))) (sym e)) ∙ bad (earlier msg at))

pub next-bad : (msg : List ℕ) (at : ℕ) (text : List ℕ) (limit target : ℕ) → Pointed msg at text limit (Some target) → target < limit → NoName text (drop target msg)
    → name_read msg at ≡ None
next-bad msg at text limit target before back bad =
    no-name msg at (ap (option_and_then kept) (before.is ∙ ap (followed text) (earlier-there msg limit target back)) ∙ bad (earlier msg target))

pub forward-bad : (msg : List ℕ) (at : ℕ) (text : List ℕ) (limit target : ℕ) → Pointed msg at text limit (Some target) → limit ≤ target → name_read msg at ≡ None
forward-bad msg at text limit target before forward =
    no-name msg at (ap (option_and_then kept) (before.is ∙ ap (followed text) (earlier-nothing msg limit target forward)))

-- the zero was reached
pub run-ended : (msg : List ℕ) (at : ℕ) (text name : List ℕ) (limit behind : ℕ) → Pointed msg at text limit None → length text ≤ 254 → name ≡ drop 1 text
    → behind ≡ behind_name msg at → name_read msg at ≡ Some (name, behind)
unfolding name_at
run-ended msg at text name limit behind before short n b =
    ap (λ x. option_map (λ name. (name, behind_name msg at)) (option_and_then kept x)) (before.is ∙ ap (λ t. Some t) (append-nil text))
    ∙ ap (option_map (λ name. (name, behind_name msg at))) (if-true (nat_le (length text) 254) _ _ (grind (arith, nat_tests)))
    ∙ ap (λ p. Some p) (pair-same (sym n) (sym b))
  where
    pair-same : {a b : List ℕ} {m n : ℕ} → a ≡ b → m ≡ n → ◌≡◌ {A = List ℕ × ℕ} (a, m) (b, n)
    pair-same e f = cc
