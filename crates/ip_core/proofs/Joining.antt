-- A fragment's pool is found, or opened, or isn't there.
use Rattle.std.proofs.Common.{◌≡◌, ℕ, zero, suc, ◌+◌, ◌<◌, ◌≤◌, Bool, true, false, cond, not, ◌&&◌, ◌||◌, List, [], ◌∷◌, ◌++◌, length, get_or, set, Option, Some, None, is_some, option_map, unwrap_or, nat_lt, nat_le, refl, sym, ap, subst, ◌∙◌, arith}
use Rattle.std.proofs.lemmas.Bool.Decides.{nat_tests}
use Rattle.std.specs.List.{list_any, position, position_or_len, remove}
use Rattle.wire_ip4.specs.Packet.{Packet}
use Rattle.ip_core.specs.Bytes.{Bytes, bytes_kept, bytes_with}
use Rattle.ip_core.proofs.Finding.{not-found, past-all}
use Rattle.ip_core.specs.Pools.{Key, Pool, Keeping, key_of, is_of, reach_of, most_bytes, most_pools, is_dropped, kept_of, with_kept, without, kept_with, joined, after_fragment}

-- the pool of a key, in the place where it stands
abbrev pub pool_with : {X : Type 0} → Pool X → X → Pool X
pool_with pool x = record { key = pool.key; opened = pool.opened; kept = x }

-- the key's pool is at this place
pub record IsAt {X : Type 0} (k : Keeping X) (key : Key) (pools : List (Pool X)) (i : ℕ) : Type 0 where
  pub there : list_any (is_of key) pools ≡ true
  pub kept_is : (d : Pool X) → kept_of k key pools ≡ (get_or pools i d).kept
  pub without_is : without key pools ≡ remove pools i
  pub with_is : (now : ℕ) (x : X) (d : Pool X) → with_kept key now x pools ≡ set pools i (pool_with (get_or pools i d) x)

-- no pool is the key's
pub record IsNowhere {X : Type 0} (k : Keeping X) (key : Key) (pools : List (Pool X)) : Type 0 where
  pub kept_is : kept_of k key pools ≡ k.nothing
  pub without_is : without key pools ≡ pools
  pub with_is : (now : ℕ) (x : X) → with_kept key now x pools ≡ pools ++ record { key = key; opened = now; kept = x } ∷ []

or-true : (a b : Bool) → b ≡ true → a || b ≡ true
or-true true b e = refl
or-true false b e = e

module _ {X : Type 0} (k : Keeping X) (key : Key) where
  at-first : (pool : Pool X) (pools : List (Pool X)) → is_of key pool ≡ true → IsAt k key (pool ∷ pools) 0
  at-first pool pools e = record {
    there = ap (λ b. b || list_any (is_of key) pools) e;
    kept_is = λ d. ap (λ b. cond b pool.kept (kept_of k key pools)) e;
    without_is = ap (λ b. cond b pools (pool ∷ without key pools)) e;
    with_is = λ now x d. ap (λ b. cond b (pool_with pool x ∷ pools) (pool ∷ with_kept key now x pools)) e;
  }

  at-later : (pool : Pool X) (pools : List (Pool X)) (i : ℕ) → is_of key pool ≡ false → IsAt k key pools i → IsAt k key (pool ∷ pools) (suc i)
  at-later pool pools i e r = record {
    there = ap (λ b. b || list_any (is_of key) pools) e ∙ r.there;
    kept_is = λ d. ap (λ b. cond b pool.kept (kept_of k key pools)) e ∙ r.kept_is d;
    without_is = ap (λ b. cond b pools (pool ∷ without key pools)) e ∙ ap (λ l. pool ∷ l) r.without_is;
    with_is = λ now x d. ap (λ b. cond b (pool_with pool x ∷ pools) (pool ∷ with_kept key now x pools)) e ∙ ap (λ l. pool ∷ l) (r.with_is now x d);
  }

  nowhere-later : (pool : Pool X) (pools : List (Pool X)) → is_of key pool ≡ false → IsNowhere k key pools → IsNowhere k key (pool ∷ pools)
  nowhere-later pool pools e r = record {
    kept_is = ap (λ b. cond b pool.kept (kept_of k key pools)) e ∙ r.kept_is;
    without_is = ap (λ b. cond b pools (pool ∷ without key pools)) e ∙ ap (λ l. pool ∷ l) r.without_is;
    with_is = λ now x. ap (λ b. cond b (pool_with pool x ∷ pools) (pool ∷ with_kept key now x pools)) e ∙ ap (λ l. pool ∷ l) (r.with_is now x);
  }

  at-cases : (pool : Pool X) (pools : List (Pool X)) (i : ℕ) (b : Bool)
      → ((j : ℕ) → position_or_len (is_of key) pools ≡ j → j < length pools → IsAt k key pools j)
      → is_of key pool ≡ b → position_or_len (is_of key) (pool ∷ pools) ≡ i → i < length (pool ∷ pools) → IsAt k key (pool ∷ pools) i
  at-cases pool pools i true rest e p less =
      let first : 0 ≡ i = sym (ap (λ b. cond (not b) (1 + position_or_len (is_of key) pools) 0) e) ∙ p in
      subst (IsAt k key (pool ∷ pools)) first (at-first pool pools e)
  at-cases pool pools i false rest e p less =
      let later : 1 + position_or_len (is_of key) pools ≡ i = sym (ap (λ b. cond (not b) (1 + position_or_len (is_of key) pools) 0) e) ∙ p in
      let same : suc (position_or_len (is_of key) pools) ≡ i = omega (arith, later) in
      let r : IsAt k key pools (position_or_len (is_of key) pools) = rest (position_or_len (is_of key) pools) refl (omega (arith, later, less)) in
      subst (IsAt k key (pool ∷ pools)) same (at-later pool pools (position_or_len (is_of key) pools) e r)

  at-place : (pools : List (Pool X)) (i : ℕ) → position_or_len (is_of key) pools ≡ i → i < length pools → IsAt k key pools i
  at-place [] i p less = absurd (omega (arith, less))
  at-place (pool ∷ pools) i p less = at-cases pool pools i (is_of key pool) (at-place pools) refl p less

  nowhere-cases : (pool : Pool X) (pools : List (Pool X)) (b : Bool)
      → (length pools ≤ position_or_len (is_of key) pools → IsNowhere k key pools)
      → is_of key pool ≡ b → length (pool ∷ pools) ≤ position_or_len (is_of key) (pool ∷ pools) → IsNowhere k key (pool ∷ pools)
  nowhere-cases pool pools true rest e p =
      let first : position_or_len (is_of key) (pool ∷ pools) ≡ 0 = ap (λ b. cond (not b) (1 + position_or_len (is_of key) pools) 0) e in
      absurd (omega (arith, first, p))
  nowhere-cases pool pools false rest e p =
      let later : position_or_len (is_of key) (pool ∷ pools) ≡ 1 + position_or_len (is_of key) pools = ap (λ b. cond (not b) (1 + position_or_len (is_of key) pools) 0) e in
      nowhere-later pool pools e (rest (omega (arith, later, p)))

  nowhere-place : (pools : List (Pool X)) → length pools ≤ position_or_len (is_of key) pools → IsNowhere k key pools
  nowhere-place [] p = record { kept_is = refl; without_is = refl; with_is = λ now x. refl }
  nowhere-place (pool ∷ pools) p = nowhere-cases pool pools (is_of key pool) (nowhere-place pools) refl p

some-at : (b : Bool) (q i : ℕ) → cond b (Some q) None ≡ Some i → (b ≡ true) × (q ≡ i)
some-at true q i e = (refl, ap (λ o. unwrap_or o 0) e)
some-at false q i e = absurd (cc)

found-at : {X : Type 0} (k : Keeping X) (key : Key) (pools : List (Pool X)) (i : ℕ) → position (is_of key) pools ≡ Some i → IsAt k key pools i
found-at k key pools i e =
    let s = some-at (nat_lt (position_or_len (is_of key) pools) (length pools)) (position_or_len (is_of key) pools) i e in
    let less : position_or_len (is_of key) pools < length pools = grind (arith, nat_tests, s.0) in
    at-place k key pools i s.1 (omega (arith, less, s.1))

found-nowhere : {X : Type 0} (k : Keeping X) (key : Key) (pools : List (Pool X)) → position (is_of key) pools ≡ None → IsNowhere k key pools
found-nowhere k key pools e =
    nowhere-place k key pools (past-all (is_of key) pools e)

-- a fragment that isn't too long lies within the places
pub within : (f : Packet) → nat_lt most_bytes (reach_of f) ≡ false → reach_of f ≤ most_bytes
within f h = grind (arith, nat_tests)

-- one of a key with a pool
admitted : (f : Packet) (pools : List (Pool Bytes)) → reach_of f ≤ most_bytes → list_any (is_of (key_of f)) pools ≡ true → is_dropped f pools ≡ false
admitted f pools h any =
    let near : nat_lt most_bytes (reach_of f) ≡ false = grind (arith, nat_tests) in
    ap (λ b. b || (not (list_any (is_of (key_of f)) pools) && nat_le most_pools (length pools))) near
    ∙ ap (λ b. not b && nat_le most_pools (length pools)) any

-- one of a new key while a pool is free
admitted-new : (f : Packet) (pools : List (Pool Bytes)) → reach_of f ≤ most_bytes → list_any (is_of (key_of f)) pools ≡ false → length pools < most_pools
    → is_dropped f pools ≡ false
admitted-new f pools h any less =
    let near : nat_lt most_bytes (reach_of f) ≡ false = grind (arith, nat_tests) in
    let room : nat_le most_pools (length pools) ≡ false = grind (arith, nat_tests) in
    ap (λ b. b || (not (list_any (is_of (key_of f)) pools) && nat_le most_pools (length pools))) near
    ∙ ap (λ b. not b && nat_le most_pools (length pools)) any ∙ room

-- one of a new key while none is free
dropped-new : (f : Packet) (pools : List (Pool Bytes)) → list_any (is_of (key_of f)) pools ≡ false → most_pools ≤ length pools → is_dropped f pools ≡ true
dropped-new f pools any full =
    let room : nat_le most_pools (length pools) ≡ true = grind (arith, nat_tests) in
    or-true (nat_lt most_bytes (reach_of f)) _ (ap (λ b. not b && nat_le most_pools (length pools)) any ∙ room)

some-map : (count : Option ℕ) (g : ℕ → List ℕ) → is_some (option_map g count) ≡ is_some count
some-map None g = refl
some-map (Some n) g = refl

-- what the room and the pools are after a fragment, by what it makes of its pool
pub record IsJoined (g : ℕ → List ℕ) (count : Option ℕ) (now : ℕ) (pools after : List (Pool Bytes)) (f : Packet) : Type 0 where
  pub bytes : option_map g count ≡ joined bytes_kept pools f
  pub pools_are : after ≡ after_fragment bytes_kept now pools f

-- a fragment that isn't dropped
joined-kept : (g : ℕ → List ℕ) (count : Option ℕ) (now : ℕ) (pools after closed added : List (Pool Bytes)) (f : Packet) (kept : Bytes)
    → is_dropped f pools ≡ false → kept_with bytes_kept f pools ≡ kept
    → without (key_of f) pools ≡ closed → with_kept (key_of f) now kept pools ≡ added
    → option_map g count ≡ bytes_kept.whole kept → after ≡ cond (is_some count) closed added → IsJoined g count now pools after f
joined-kept g count now pools after closed added f kept d k w a b p =
    let whole : bytes_kept.whole (kept_with bytes_kept f pools) ≡ option_map g count = ap bytes_kept.whole k ∙ sym b in
    let rest : Option (List ℕ) → Bytes → List (Pool Bytes) = λ o x. cond (is_some o) (without (key_of f) pools) (with_kept (key_of f) now x pools) in
    record {
      bytes = sym (ap (λ t. cond t None (bytes_kept.whole (kept_with bytes_kept f pools))) d ∙ whole);
      pools_are = sym
          (ap (λ t. cond t pools (rest (bytes_kept.whole (kept_with bytes_kept f pools)) (kept_with bytes_kept f pools))) d
          ∙ ap (λ o. rest o (kept_with bytes_kept f pools)) whole
          ∙ ap (λ x. rest (option_map g count) x) k
          ∙ ap (λ t. cond t (without (key_of f) pools) (with_kept (key_of f) now kept pools)) (some-map count g)
          ∙ ap (λ l. cond (is_some count) l (with_kept (key_of f) now kept pools)) w
          ∙ ap (λ l. cond (is_some count) closed l) a
          ∙ sym p);
    }

joined-dropped : (g : ℕ → List ℕ) (now : ℕ) (pools : List (Pool Bytes)) (f : Packet) → is_dropped f pools ≡ true → IsJoined g None now pools pools f
joined-dropped g now pools f d = record {
  bytes = sym (ap (λ t. cond t None (bytes_kept.whole (kept_with bytes_kept f pools))) d);
  pools_are = sym (ap (λ t. cond t pools (cond (is_some (bytes_kept.whole (kept_with bytes_kept f pools))) (without (key_of f) pools) (with_kept (key_of f) now (kept_with bytes_kept f pools) pools))) d);
}

-- the key has a pool
pub join-found : (g : ℕ → List ℕ) (count : Option ℕ) (now i : ℕ) (seen pools after : List (Pool Bytes)) (f : Packet) (key : Key) (d : Pool Bytes)
    → key ≡ key_of f → seen ≡ pools → Some i ≡ position (is_of key) seen → reach_of f ≤ most_bytes
    → option_map g count ≡ bytes_kept.whole (bytes_with (get_or pools i d).kept f)
    → after ≡ cond (is_some count) (remove pools i) (set pools i (pool_with (get_or pools i d) (bytes_with (get_or pools i d).kept f)))
    → IsJoined g count now pools after f
join-found g count now i seen pools after f key d same l e h b p =
    let at = found-at bytes_kept (key_of f) pools i (sym (e ∙ ap (λ xs. position (is_of key) xs) l ∙ ap (λ x. position (is_of x) pools) same)) in
    joined-kept g count now pools after _ _ f (bytes_with (get_or pools i d).kept f) (admitted f pools h at.there) (ap (λ x. bytes_with x f) (at.kept_is d))
    at.without_is (at.with_is now (bytes_with (get_or pools i d).kept f) d) b p

-- the key has none, and no slot is free
pub join-full : (g : ℕ → List ℕ) (now : ℕ) (seen pools : List (Pool Bytes)) (f : Packet) (key : Key)
    → key ≡ key_of f → seen ≡ pools → None ≡ position (is_of key) seen → most_pools ≤ length pools → IsJoined g None now pools pools f
join-full g now seen pools f key same l e full =
    let none : list_any (is_of (key_of f)) pools ≡ false = not-found (is_of (key_of f)) pools (sym (e ∙ ap (λ xs. position (is_of key) xs) l ∙ ap (λ x. position (is_of x) pools) same)) in
    joined-dropped g now pools f (dropped-new f pools none full)

module _ {X : Type 0} where
  last-get : (xs : List X) (x d : X) (n : ℕ) → n ≡ length xs → get_or (xs ++ x ∷ []) n d ≡ x
  last-get [] x d zero e = refl
  last-get [] x d (suc n) e = absurd (omega (arith, e))
  last-get (y ∷ xs) x d zero e = absurd (omega (arith, e))
  last-get (y ∷ xs) x d (suc n) e = last-get xs x d n (omega (arith, e))

  last-set : (xs : List X) (x y : X) (n : ℕ) → n ≡ length xs → set (xs ++ x ∷ []) n y ≡ xs ++ y ∷ []
  last-set [] x y zero e = refl
  last-set [] x y (suc n) e = absurd (omega (arith, e))
  last-set (z ∷ xs) x y zero e = absurd (omega (arith, e))
  last-set (z ∷ xs) x y (suc n) e = ap (λ l. z ∷ l) (last-set xs x y n (omega (arith, e)))

  last-remove : (xs : List X) (x : X) (n : ℕ) → n ≡ length xs → remove (xs ++ x ∷ []) n ≡ xs
  last-remove [] x zero e = refl
  last-remove [] x (suc n) e = absurd (omega (arith, e))
  last-remove (z ∷ xs) x zero e = absurd (omega (arith, e))
  last-remove (z ∷ xs) x (suc n) e = ap (λ l. z ∷ l) (last-remove xs x n (omega (arith, e)))

-- the key has none, and one opens
pub join-new : (g : ℕ → List ℕ) (count : Option ℕ) (now i : ℕ) (seen pools opened after : List (Pool Bytes)) (f : Packet) (key : Key) (d : Pool Bytes)
    → key ≡ key_of f → seen ≡ pools → None ≡ position (is_of key) seen → reach_of f ≤ most_bytes → length pools < most_pools → i ≡ length pools
    → opened ≡ pools ++ record { key = key; opened = now; kept = bytes_kept.nothing } ∷ []
    → option_map g count ≡ bytes_kept.whole (bytes_with (get_or opened i d).kept f)
    → after ≡ cond (is_some count) (remove opened i) (set opened i (pool_with (get_or opened i d) (bytes_with (get_or opened i d).kept f)))
    → IsJoined g count now pools after f
join-new g count now i seen pools opened after f key d same l e h room last o b p =
    let out : position (is_of (key_of f)) pools ≡ None = sym (e ∙ ap (λ xs. position (is_of key) xs) l ∙ ap (λ x. position (is_of x) pools) same) in
    let at = found-nowhere bytes_kept (key_of f) pools out in
    let fresh : Pool Bytes = record { key = key_of f; opened = now; kept = bytes_kept.nothing } in
    let kept : Bytes = bytes_with bytes_kept.nothing f in
    let o' : opened ≡ pools ++ fresh ∷ [] = o ∙ ap (λ x. pools ++ record { key = x; opened = now; kept = bytes_kept.nothing } ∷ []) same in
    let at_last : get_or opened i d ≡ fresh = ap (λ l. get_or l i d) o' ∙ last-get pools fresh d i last in
    let whole : option_map g count ≡ bytes_kept.whole kept = b ∙ ap (λ x. bytes_kept.whole (bytes_with x.kept f)) at_last in
    let removed : remove opened i ≡ pools = ap (λ l. remove l i) o' ∙ last-remove pools fresh i last in
    let written : set opened i (pool_with (get_or opened i d) (bytes_with (get_or opened i d).kept f)) ≡ pools ++ pool_with fresh kept ∷ [] =
    ap (λ x. set opened i (pool_with x (bytes_with x.kept f))) at_last ∙ ap (λ l. set l i (pool_with fresh kept)) o' ∙ last-set pools fresh (pool_with fresh kept) i last in
    joined-kept g count now pools after pools (pools ++ pool_with fresh kept ∷ []) f kept (admitted-new f pools h (not-found (is_of (key_of f)) pools out) room) (ap (λ x. bytes_with x f) at.kept_is)
    at.without_is (at.with_is now kept) whole
    (p ∙ ap (λ l. cond (is_some count) l (set opened i (pool_with (get_or opened i d) (bytes_with (get_or opened i d).kept f)))) removed ∙ ap (λ l. cond (is_some count) pools l) written)

-- what is read where no pool stands
abbrev pub blank : Pool Bytes
blank = record { key = record { src = 0; dest = 0; proto = 0; id = 0 }; opened = 0; kept = bytes_kept.nothing }

-- a slot that was pushed where there was memory
pub pushed : (ok : Bool) (slots after : List (Pool Bytes)) (slot : Pool Bytes) → ok ≡ true → after ≡ cond ok (slots ++ slot ∷ []) slots → after ≡ slots ++ slot ∷ []
pushed true slots after slot t e = e
pushed false slots after slot t e = absurd (cc)
