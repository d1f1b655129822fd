-- Children under keys: what is found, changed and taken out under a key is so in the list of all.
use Rattle.std.proofs.Common.{◌≡◌, ◌≢◌, inl, inr, ℕ, zero, suc, ◌+◌, Bool, true, false, ◌==◌, ◌||◌, List, [], ◌∷◌, ◌++◌, length, filter, map, find, slice_get, Option, Some, None, is_some, IsSomeAnd, refl, sym, ap, ◌∙◌, subst, arith}
use Rattle.std.specs.List.{cons_option}
use Rattle.std.proofs.lemmas.Bool.{cases_eq}
use Rattle.std.proofs.lemmas.Bool.Decides.{nat_tests}
use Rattle.efi_book.specs.declared.children.Child.{Child}
use Rattle.efi_book.specs.Tables.{has_key, is_not_key, in_slot, children_at, Stands}
use Rattle.efi_book.specs.Families.{is_named, is_not_named, renewed}

pub has_more : (k key : ℕ) (ks : List ℕ) → has_key k (ks ++ key ∷ []) ≡ (has_key k ks || (key == k))
has_more k key [] = grind (arith, nat_tests)
has_more k key (x ∷ ks) = ap (λ b. (x == k) || b) (has_more k key ks) ∙ grind (arith, nat_tests)

pub has_left : (k key : ℕ) (ks : List ℕ) → k ≢ key → has_key k (filter (is_not_key key) ks) ≡ has_key k ks
has_left k key [] differs = refl
has_left k key (x ∷ ks) differs =
    elim (cases_eq x key) [
      | inl same ↦ grind (arith, nat_tests, has_left k key ks differs)
      | inr other ↦ grind (arith, nat_tests, has_left k key ks differs)
    ]

pub left_without : (key : ℕ) (ks : List ℕ) → has_key key ks ≡ false → filter (is_not_key key) ks ≡ ks
left_without key [] h = refl
left_without key (x ∷ ks) h =
    let here : (x == key) ≡ false = grind arith in
    let rest : has_key key ks ≡ false = grind arith in
    grind (arith, left_without key ks rest)

other-key : (k key : ℕ) (ks : List ℕ) → has_key key (k ∷ ks) ≡ false → k ≢ key
other-key k key ks h = λ same. absurd (grind (arith, nat_tests))

rest-key : (k key : ℕ) (ks : List ℕ) → has_key key (k ∷ ks) ≡ false → has_key key ks ≡ false
rest-key k key ks h = grind arith

module _ {C : Type 0} where
  find-other : (o : Option (Child C)) (k key serial : ℕ) (rest : List (Child C)) → IsSomeAnd o (λ c. c.key ≡ k) → k ≢ key
      → find (is_named key serial) (cons_option o rest) ≡ find (is_named key serial) rest
  find-other None k key serial rest h e = absurd h
  find-other (Some c) k key serial rest h e = grind (arith, nat_tests)

  find-here : (o : Option (Child C)) (c : Child C) (key serial : ℕ) (rest : List (Child C)) → o ≡ Some c → c.key ≡ key
      → find (is_named key serial) rest ≡ None → find (is_named key serial) (cons_option o rest) ≡ in_slot (Some c) serial
  find-here o c key serial rest e h none = rw e (grind (arith, nat_tests, none))

  -- a slot whose child has the serial
  pub slot_and : (o : Option (Child C)) (serial : ℕ) → is_some (in_slot o serial) ≡ true → IsSomeAnd o (λ c. c.serial ≡ serial)
  slot_and None serial h = absurd (cc)
  slot_and (Some c) serial h = grind (arith, nat_tests)

  pub slot_is : (o : Option (Child C)) (serial : ℕ) (c : Child C) → o ≡ Some c → is_some (in_slot o serial) ≡ true → in_slot o serial ≡ Some c
  slot_is None serial c e h = absurd (cc)
  slot_is (Some d) serial c e h = grind (arith, nat_tests)

  pub vacant : (at : ℕ → Option (Child C)) (ks : List ℕ) (key : ℕ) → Stands at ks → at key ≡ None → has_key key ks ≡ false
  vacant at [] key s e = refl
  vacant at (k ∷ ks) key s e =
      elim (cases_eq k key) [
        | inl same ↦ absurd (subst (λ (o : Option (Child C)). IsSomeAnd o (λ c. c.key ≡ k)) (ap at same ∙ e) s.0)
        | inr differs ↦ grind (arith, nat_tests, vacant at ks key s.2 e)
      ]

  pub absent : (at : ℕ → Option (Child C)) (ks : List ℕ) (key serial : ℕ) → Stands at ks → has_key key ks ≡ false
      → find (is_named key serial) (children_at at ks) ≡ None
  absent at [] key serial s e = refl
  absent at (k ∷ ks) key serial s e =
      let differs : k ≢ key = λ same. absurd (grind (arith, nat_tests)) in
      let rest : has_key key ks ≡ false = grind arith in
      find-other (at k) k key serial (children_at at ks) s.0 differs ∙ absent at ks key serial s.2 rest

  pub found : (at : ℕ → Option (Child C)) (ks : List ℕ) (key serial : ℕ) (c : Child C) → Stands at ks → at key ≡ Some c → has_key key ks ≡ true
      → find (is_named key serial) (children_at at ks) ≡ in_slot (Some c) serial
  found at [] key serial c s e h = absurd (cc)
  found at (k ∷ ks) key serial c s e h =
      elim (cases_eq k key) [
        | inl same ↦
            let here : at k ≡ Some c = ap at same ∙ e in
            let named : c.key ≡ k = subst (λ (o : Option (Child C)). IsSomeAnd o (λ x. x.key ≡ k)) here s.0 in
            let none : has_key key ks ≡ false = subst (λ (x : ℕ). has_key x ks ≡ false) same s.1 in
            find-here (at k) c key serial (children_at at ks) here (named ∙ same) (absent at ks key serial s.2 none)
        | inr differs ↦
            let rest : has_key key ks ≡ true = grind (arith, nat_tests) in
            find-other (at k) k key serial (children_at at ks) s.0 differs ∙ found at ks key serial c s.2 e rest
      ]

  looks : (at : ℕ → Option (Child C)) (ks : List ℕ) (key serial : ℕ) (o : Option (Child C)) → at key ≡ o → Stands at ks
      → (is_some (at key) ≡ true → has_key key ks ≡ true) → find (is_named key serial) (children_at at ks) ≡ in_slot o serial
  looks at ks key serial None e s known = absent at ks key serial s (vacant at ks key s e)
  looks at ks key serial (Some c) e s known = found at ks key serial c s e (known (ap (λ (o : Option (Child C)). is_some o) e))

  -- one look under the key
  pub look : (at : ℕ → Option (Child C)) (ks : List ℕ) (key serial : ℕ) → Stands at ks → (is_some (at key) ≡ true → has_key key ks ≡ true)
      → find (is_named key serial) (children_at at ks) ≡ in_slot (at key) serial
  look at ks key serial s known = looks at ks key serial (at key) refl s known

  -- how many there are
  count-step : (o : Option (Child C)) (k : ℕ) (rest : List (Child C)) (n : ℕ) → IsSomeAnd o (λ c. c.key ≡ k) → length rest ≡ n → length (cons_option o rest) ≡ suc n
  count-step None k rest n h e = absurd h
  count-step (Some c) k rest n h e = ap suc e

  pub counted : (at : ℕ → Option (Child C)) (ks : List ℕ) → Stands at ks → length (children_at at ks) ≡ length ks
  counted at [] s = refl
  counted at (k ∷ ks) s = count-step (at k) k (children_at at ks) (length ks) s.0 (counted at ks s.2)

  -- the i-th
  place-step : (o : Option (Child C)) (k : ℕ) (rest : List (Child C)) → IsSomeAnd o (λ c. c.key ≡ k) → slice_get (cons_option o rest) 0 ≡ o
  place-step None k rest h = absurd h
  place-step (Some c) k rest h = refl

  next-step : (o : Option (Child C)) (k i : ℕ) (rest : List (Child C)) → IsSomeAnd o (λ c. c.key ≡ k) → slice_get (cons_option o rest) (suc i) ≡ slice_get rest i
  next-step None k i rest h = absurd h
  next-step (Some c) k i rest h = refl

  pub placed : (at : ℕ → Option (Child C)) (ks : List ℕ) (i key : ℕ) → Stands at ks → slice_get ks i ≡ Some key → slice_get (children_at at ks) i ≡ at key
  placed at [] i key s e = absurd (cc)
  placed at (k ∷ ks) zero key s e = place-step (at k) k (children_at at ks) s.0 ∙ ap at (cc)
  placed at (k ∷ ks) (suc i) key s e = next-step (at k) k i (children_at at ks) s.0 ∙ placed at ks i key s.2 e

  -- one child more, under a key that was vacant
  push-step : (o : Option (Child C)) (rest more : List (Child C)) (rest' : List (Child C)) → rest' ≡ rest ++ more → cons_option o rest' ≡ cons_option o rest ++ more
  push-step None rest more rest' e = e
  push-step (Some c) rest more rest' e = ap (λ l. c ∷ l) e

  pub pushed : (at at' : ℕ → Option (Child C)) (ks : List ℕ) (key : ℕ) (c : Child C) → has_key key ks ≡ false → at' key ≡ Some c
      → ((k : ℕ) → k ≢ key → at' k ≡ at k) → children_at at' (ks ++ key ∷ []) ≡ children_at at ks ++ c ∷ []
  pushed at at' [] key c h e others = ap (λ o. cons_option o []) e
  pushed at at' (k ∷ ks) key c h e others =
      ap (λ o. cons_option o (children_at at' (ks ++ key ∷ []))) (others k (other-key k key ks h))
      ∙ push-step (at k) (children_at at ks) (c ∷ []) (children_at at' (ks ++ key ∷ [])) (pushed at at' ks key c (rest-key k key ks h) e others)

  pub stands_pushed : (at at' : ℕ → Option (Child C)) (ks : List ℕ) (key : ℕ) (c : Child C) → Stands at ks → has_key key ks ≡ false → at' key ≡ Some c → c.key ≡ key
      → ((k : ℕ) → k ≢ key → at' k ≡ at k) → Stands at' (ks ++ key ∷ [])
  stands_pushed at at' [] key c s h e named others = (subst (λ (o : Option (Child C)). IsSomeAnd o (λ x. x.key ≡ key)) (sym e) named, refl, tt)
  stands_pushed at at' (k ∷ ks) key c s h e named others =
      let same : at' k ≡ at k = others k (other-key k key ks h) in
      let once : has_key k (ks ++ key ∷ []) ≡ false = has_more k key ks ∙ grind (arith, nat_tests, s.1) in (
        subst (λ (o : Option (Child C)). IsSomeAnd o (λ x. x.key ≡ k)) (sym same) s.0,
        once,
        stands_pushed at at' ks key c s.2 (rest-key k key ks h) e named others,
      )

  -- another value under a key
  renew-other : (o : Option (Child C)) (k key serial : ℕ) (value : C) (rest rest' : List (Child C)) → IsSomeAnd o (λ c. c.key ≡ k) → k ≢ key
      → rest' ≡ map (renewed key serial value) rest → cons_option o rest' ≡ map (renewed key serial value) (cons_option o rest)
  renew-other None k key serial value rest rest' h differs e = absurd h
  renew-other (Some c) k key serial value rest rest' h differs e =
      let same : renewed key serial value c ≡ c = grind (arith, nat_tests) in
      rw same (ap (λ l. c ∷ l) e)

  pub renew : (at at' : ℕ → Option (Child C)) (ks : List ℕ) (key serial : ℕ) (value : C) → Stands at ks → at' key ≡ Some (record { key = key; serial = serial; value = value })
      → IsSomeAnd (at key) (λ c. c.serial ≡ serial)
      → ((k : ℕ) → k ≢ key → at' k ≡ at k) → children_at at' ks ≡ map (renewed key serial value) (children_at at ks)
  renew at at' [] key serial value s e old others = refl
  renew at at' (k ∷ ks) key serial value s e old others =
      let IH = renew at at' ks key serial value s.2 e old others in
      elim (cases_eq k key) [
        | inl same ↦
            let here : at' k ≡ Some (record { key = key; serial = serial; value = value }) = ap at' same ∙ e in
            let was : IsSomeAnd (at k) (λ c. c.serial ≡ serial) = subst (λ (x : ℕ). IsSomeAnd (at x) (λ c. c.serial ≡ serial)) (sym same) old in
            rw here (renew-here (at k) k key serial value (children_at at ks) (children_at at' ks) same s.0 was IH)
        | inr differs ↦ rw (others k differs) (renew-other (at k) k key serial value (children_at at ks) (children_at at' ks) s.0 differs IH)
      ]
    where
      renew-here : (o : Option (Child C)) (k key serial : ℕ) (value : C) (rest rest' : List (Child C)) → k ≡ key → IsSomeAnd o (λ c. c.key ≡ k) → IsSomeAnd o (λ c. c.serial ≡ serial)
          → rest' ≡ map (renewed key serial value) rest → record { key = key; serial = serial; value = value } ∷ rest' ≡ map (renewed key serial value) (cons_option o rest)
      renew-here None k key serial value rest rest' same h was e = absurd h
      renew-here (Some c) k key serial value rest rest' same h was e =
          let now : renewed key serial value c ≡ record { key = key; serial = serial; value = value } = grind (arith, nat_tests) in
          rw now (ap (λ l. record { key = key; serial = serial; value = value } ∷ l) e)

  pub stands_renewed : (at at' : ℕ → Option (Child C)) (ks : List ℕ) (key : ℕ) (c : Child C) → Stands at ks → at' key ≡ Some c → c.key ≡ key
      → ((k : ℕ) → k ≢ key → at' k ≡ at k) → Stands at' ks
  stands_renewed at at' [] key c s e named others = tt
  stands_renewed at at' (k ∷ ks) key c s e named others =
      elim (cases_eq k key) [
        | inl same ↦ (
          subst (λ (o : Option (Child C)). IsSomeAnd o (λ x. x.key ≡ k)) (sym (ap at' same ∙ e)) (named ∙ sym same),
          s.1,
          stands_renewed at at' ks key c s.2 e named others,
        )
        | inr differs ↦ (
          subst (λ (o : Option (Child C)). IsSomeAnd o (λ x. x.key ≡ k)) (sym (others k differs)) s.0,
          s.1,
          stands_renewed at at' ks key c s.2 e named others,
        )
      ]

  -- where there is none, nothing changes
  renew-none-step : (key serial : ℕ) (value : C) (c : Child C) (cs : List (Child C)) (b : Bool) → is_named key serial c ≡ b → find (is_named key serial) (c ∷ cs) ≡ None
      → (find (is_named key serial) cs ≡ None → map (renewed key serial value) cs ≡ cs) → map (renewed key serial value) (c ∷ cs) ≡ c ∷ cs
  renew-none-step key serial value c cs true h e rest = absurd (grind arith)
  renew-none-step key serial value c cs false h e rest =
      let none : find (is_named key serial) cs ≡ None = grind arith in
      let same : renewed key serial value c ≡ c = grind arith in
      rw same (ap (λ l. c ∷ l) (rest none))

  pub renew_none : (key serial : ℕ) (value : C) (cs : List (Child C)) → find (is_named key serial) cs ≡ None → map (renewed key serial value) cs ≡ cs
  renew_none key serial value [] e = refl
  renew_none key serial value (c ∷ cs) e = renew-none-step key serial value c cs (is_named key serial c) refl e (renew_none key serial value cs)

  -- without the child under a key
  leave-other : (o : Option (Child C)) (k key serial : ℕ) (rest rest' : List (Child C)) → IsSomeAnd o (λ c. c.key ≡ k) → k ≢ key
      → rest' ≡ filter (is_not_named key serial) rest → cons_option o rest' ≡ filter (is_not_named key serial) (cons_option o rest)
  leave-other None k key serial rest rest' h differs e = absurd h
  leave-other (Some c) k key serial rest rest' h differs e =
      let stays : is_not_named key serial c ≡ true = grind (arith, nat_tests) in
      rw stays (ap (λ l. c ∷ l) e)

  leave-here : (o : Option (Child C)) (k key serial : ℕ) (rest rest' : List (Child C)) → k ≡ key → IsSomeAnd o (λ c. c.key ≡ k) → IsSomeAnd o (λ c. c.serial ≡ serial)
      → rest' ≡ filter (is_not_named key serial) rest → rest' ≡ filter (is_not_named key serial) (cons_option o rest)
  leave-here None k key serial rest rest' same h was e = absurd h
  leave-here (Some c) k key serial rest rest' same h was e =
      let goes : is_not_named key serial c ≡ false = grind (arith, nat_tests) in
      rw goes e

  pub removed : (at at' : ℕ → Option (Child C)) (ks : List ℕ) (key serial : ℕ) → Stands at ks → IsSomeAnd (at key) (λ c. c.serial ≡ serial)
      → ((k : ℕ) → k ≢ key → at' k ≡ at k) → children_at at' (filter (is_not_key key) ks) ≡ filter (is_not_named key serial) (children_at at ks)
  removed at at' [] key serial s old others = refl
  removed at at' (k ∷ ks) key serial s old others =
      let IH = removed at at' ks key serial s.2 old others in
      elim (cases_eq k key) [
        | inl same ↦
            let gone : is_not_key key k ≡ false = grind (arith, nat_tests) in
            let was : IsSomeAnd (at k) (λ c. c.serial ≡ serial) = subst (λ (x : ℕ). IsSomeAnd (at x) (λ c. c.serial ≡ serial)) (sym same) old in
            rw gone (leave-here (at k) k key serial (children_at at ks) (children_at at' (filter (is_not_key key) ks)) same s.0 was IH)
        | inr differs ↦
            let stays : is_not_key key k ≡ true = grind (arith, nat_tests) in
            rw (stays, others k differs) (leave-other (at k) k key serial (children_at at ks) (children_at at' (filter (is_not_key key) ks)) s.0 differs IH)
      ]

  pub stands_removed : (at at' : ℕ → Option (Child C)) (ks : List ℕ) (key : ℕ) → Stands at ks → ((k : ℕ) → k ≢ key → at' k ≡ at k)
      → Stands at' (filter (is_not_key key) ks)
  stands_removed at at' [] key s others = tt
  stands_removed at at' (k ∷ ks) key s others =
      elim (cases_eq k key) [
        | inl same ↦
            let gone : is_not_key key k ≡ false = grind (arith, nat_tests) in
            rw gone (stands_removed at at' ks key s.2 others)
        | inr differs ↦
            let stays : is_not_key key k ≡ true = grind (arith, nat_tests) in
            rw stays (
              subst (λ (o : Option (Child C)). IsSomeAnd o (λ x. x.key ≡ k)) (sym (others k differs)) s.0,
              has_left k key ks differs ∙ s.1,
              stands_removed at at' ks key s.2 others,
            )
      ]

  pub fewer : (at : ℕ → Option (Child C)) (ks : List ℕ) (key : ℕ) → Stands at ks → has_key key ks ≡ true → length (filter (is_not_key key) ks) + 1 ≡ length ks
  fewer at [] key s h = absurd (cc)
  fewer at (k ∷ ks) key s h =
      elim (cases_eq k key) [
        | inl same ↦
            let gone : is_not_key key k ≡ false = grind (arith, nat_tests) in
            let rest : has_key key ks ≡ false = subst (λ (x : ℕ). has_key x ks ≡ false) same s.1 in
            rw (gone, left_without key ks rest) (omega arith)
        | inr differs ↦
            let stays : is_not_key key k ≡ true = grind (arith, nat_tests) in
            let rest : has_key key ks ≡ true = grind (arith, nat_tests) in
            rw stays (omega (arith, fewer at ks key s.2 rest))
      ]

  pub known_left : (at at' : ℕ → Option (Child C)) (ks : List ℕ) (key k : ℕ) → ((j : ℕ) → is_some (at j) ≡ true → has_key j ks ≡ true)
      → at' key ≡ None → ((j : ℕ) → j ≢ key → at' j ≡ at j) → is_some (at' k) ≡ true → has_key k (filter (is_not_key key) ks) ≡ true
  known_left at at' ks key k before none others h =
      elim (cases_eq k key) [
        | inl same ↦
            let gone : is_some (at' k) ≡ false = ap (λ j. is_some (at' j)) same ∙ ap (λ (o : Option (Child C)). is_some o) none in
            absurd (cc)
        | inr differs ↦ has_left k key ks differs ∙ before k (ap (λ (o : Option (Child C)). is_some o) (sym (others k differs)) ∙ h)
      ]

  pub known_renewed : (at at' : ℕ → Option (Child C)) (ks : List ℕ) (key k : ℕ) → ((j : ℕ) → is_some (at j) ≡ true → has_key j ks ≡ true)
      → is_some (at key) ≡ true → ((j : ℕ) → j ≢ key → at' j ≡ at j) → is_some (at' k) ≡ true → has_key k ks ≡ true
  known_renewed at at' ks key k before was others h =
      elim (cases_eq k key) [
        | inl same ↦ before k (ap (λ j. is_some (at j)) same ∙ was)
        | inr differs ↦ before k (ap (λ (o : Option (Child C)). is_some o) (sym (others k differs)) ∙ h)
      ]

  pub known_pushed : (at at' : ℕ → Option (Child C)) (ks : List ℕ) (key k : ℕ) → ((j : ℕ) → is_some (at j) ≡ true → has_key j ks ≡ true)
      → ((j : ℕ) → j ≢ key → at' j ≡ at j) → is_some (at' k) ≡ true → has_key k (ks ++ key ∷ []) ≡ true
  known_pushed at at' ks key k before others h =
      elim (cases_eq k key) [
        | inl same ↦ has_more k key ks ∙ grind (arith, nat_tests)
        | inr differs ↦ has_more k key ks ∙ grind (arith, before k (ap (λ (o : Option (Child C)). is_some o) (sym (others k differs)) ∙ h))
      ]

  -- the slot of a key that the order names has a child
  some-and : (o : Option (Child C)) (k : ℕ) → IsSomeAnd o (λ c. c.key ≡ k) → is_some o ≡ true
  some-and None k h = absurd h
  some-and (Some c) k h = refl

  pub held : (at : ℕ → Option (Child C)) (ks : List ℕ) (i key : ℕ) → Stands at ks → slice_get ks i ≡ Some key → is_some (at key) ≡ true
  held at [] i key s e = absurd (cc)
  held at (k ∷ ks) zero key s e =
      let same : k ≡ key = cc in
      subst (λ (x : ℕ). is_some (at x) ≡ true) same (some-and (at k) k s.0)
  held at (k ∷ ks) (suc i) key s e = held at ks i key s.2 e

  -- the child under a key that the order names tells it
  key-and : (o : Option (Child C)) (k : ℕ) (c : Child C) → o ≡ Some c → IsSomeAnd o (λ x. x.key ≡ k) → c.key ≡ k
  key-and None k c e h = absurd h
  key-and (Some d) k c e h =
      let same : d ≡ c = cc in
      subst (λ (x : Child C). x.key ≡ k) same h

  pub names : (at : ℕ → Option (Child C)) (ks : List ℕ) (key : ℕ) (c : Child C) → Stands at ks → at key ≡ Some c → has_key key ks ≡ true → c.key ≡ key
  names at [] key c s e h = absurd (cc)
  names at (k ∷ ks) key c s e h =
      elim (cases_eq k key) [
        | inl same ↦ key-and (at k) k c (ap at same ∙ e) s.0 ∙ same
        | inr differs ↦
            let rest : has_key key ks ≡ true = grind (arith, nat_tests) in
            names at ks key c s.2 e rest
      ]

  pub serial_is : (o : Option (Child C)) (c : Child C) (serial : ℕ) → o ≡ Some c → IsSomeAnd o (λ x. x.serial ≡ serial) → c.serial ≡ serial
  serial_is None c serial e h = absurd h
  serial_is (Some d) c serial e h =
      let same : d ≡ c = cc in
      subst (λ (x : Child C). x.serial ≡ serial) same h
