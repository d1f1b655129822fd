-- Each serial is given to one child at most, and a live child has one that was given.
use Rattle.std.proofs.Common.{◌≡◌, ℕ, ◌+◌, ◌≤◌, nat_lt, Bool, true, false, List, [], ◌∷◌, filter, map, Option, Some, None, if◌then◌else◌, refl, ap, ◌∙◌, arith}
use Rattle.std.specs.List.{sum_by}
use Rattle.std.proofs.lemmas.List.Sums.{sum_by_push, sum_by-cons}
use Rattle.std.proofs.lemmas.Bool.Decides.{nat_tests}
use Rattle.efi_book.specs.declared.children.Child.{Child}
use Rattle.efi_book.specs.Families.{Family, is_not_named, is_callers, renewed, with_tables, without_child, with_value}
use Rattle.efi_book.specs.Cores.{Drive, start_from}
use Rattle.efi_book.specs.Calls.{Call, Create, CreateOwn, Destroy, Configure, Cancel, CancelToken, Post, Book, Messages, called, all_called}
use Rattle.efi_book.specs.Serials.{same_serial, bearers, gives, all_gives, is_past}

one-more : (n m : ℕ) → (if nat_lt n (m + 1) then 1 else 0) ≡ (if nat_lt n m then 1 else 0) + same_serial n m
one-more n m = grind (arith, nat_tests)

module _ {C : Type 0} (n : ℕ) where
  abbrev bears : Child C → ℕ
  bears c = same_serial n c.serial

  chosen-le : (b : Bool) (c : Child C) (cs rest : List (Child C)) → sum_by bears rest ≤ sum_by bears cs → sum_by bears (if b then c ∷ rest else rest) ≤ sum_by bears (c ∷ cs)
  chosen-le true c cs rest h = omega (arith, h, sum_by-cons bears c cs, sum_by-cons bears c rest)
  chosen-le false c cs rest h = omega (arith, h, sum_by-cons bears c cs)

  left-le : (test : Child C → Bool) (cs : List (Child C)) → sum_by bears (filter test cs) ≤ sum_by bears cs
  left-le test [] = omega arith
  left-le test (c ∷ cs) = chosen-le (test c) c cs (filter test cs) (left-le test cs)

  renewed-same : (key serial : ℕ) (value : C) (c : Child C) → bears (renewed key serial value c) ≡ bears c
  renewed-same key serial value c = grind (arith, nat_tests)

  renewed-all : (key serial : ℕ) (value : C) (cs : List (Child C)) → sum_by bears (map (renewed key serial value) cs) ≡ sum_by bears cs
  renewed-all key serial value [] = refl
  renewed-all key serial value (c ∷ cs) =
      omega (
        arith,
        renewed-same key serial value c,
        renewed-all key serial value cs,
        sum_by-cons bears c cs,
        sum_by-cons bears (renewed key serial value c) (map (renewed key serial value) cs),
      )

  either-le : (b : Bool) (f g h : Family C) → bearers n g ≤ bearers n f → bearers n h ≤ bearers n f → bearers n (if b then g else h) ≤ bearers n f
  either-le true f g h x y = x
  either-le false f g h x y = y

  without-le : (f : Family C) (key serial : ℕ) → bearers n (without_child f key serial) ≤ bearers n f
  without-le f key serial =
      either-le
      (is_callers f key serial)
      f
      (with_tables f (filter (is_not_named key serial) f.live) f.own)
      (with_tables f f.live (filter (is_not_named key serial) f.own))
      (omega (arith, left-le (is_not_named key serial) f.live))
      (omega (arith, left-le (is_not_named key serial) f.own))

  valued-le : (f : Family C) (key serial : ℕ) (value : C) → bearers n (with_value f key serial value) ≤ bearers n f
  valued-le f key serial value =
      either-le
      (is_callers f key serial)
      f
      (with_tables f (map (renewed key serial value) f.live) f.own)
      (with_tables f f.live (map (renewed key serial value) f.own))
      (omega (arith, renewed-all key serial value f.live))
      (omega (arith, renewed-all key serial value f.own))

next-either : {C : Type 0} (b : Bool) (f g : Family C) → f.next ≡ g.next → (if b then f else g).next ≡ g.next
next-either true f g e = e
next-either false f g e = refl

as-before : (n a b : ℕ) → a ≡ b → (if nat_lt n a then 1 else 0) ≡ (if nat_lt n b then 1 else 0) + 0
as-before n a b e = ap (λ m. if nat_lt n m then 1 else 0) e ∙ omega arith

module _ {C : Type 0} where
  next-without : (f : Family C) (key serial : ℕ) → (without_child f key serial).next ≡ f.next
  next-without f key serial =
      next-either
      (is_callers f key serial)
      (with_tables f (filter (is_not_named key serial) f.live) f.own)
      (with_tables f f.live (filter (is_not_named key serial) f.own))
      refl

  next-valued : (f : Family C) (key serial : ℕ) (value : C) → (with_value f key serial value).next ≡ f.next
  next-valued f key serial value =
      next-either
      (is_callers f key serial)
      (with_tables f (map (renewed key serial value) f.live) f.own)
      (with_tables f f.live (map (renewed key serial value) f.own))
      refl

module _ {C W M : Type 0} (n : ℕ) where
  call-numbers : (s : Drive C W M) (call : Call C W M) → is_past n (called s call) ≡ is_past n s + gives n s call
  call-numbers s (Create key) = one-more n s.family.next
  call-numbers s (CreateOwn key) = one-more n s.family.next
  call-numbers s (Destroy key serial) = as-before n _ _ (next-without s.family key serial)
  call-numbers s (Configure key serial (Some c)) = as-before n _ _ (next-valued s.family key serial (Some c))
  call-numbers s (Configure key serial None) = as-before n _ _ (next-valued s.family key serial None)
  call-numbers s (Cancel serial (Some t)) = omega arith
  call-numbers s (Cancel serial None) = omega arith
  call-numbers s (CancelToken serial (Some t)) = omega arith
  call-numbers s (CancelToken serial None) = omega arith
  call-numbers s (Post serial owner work) = omega arith
  call-numbers s (Book act) = omega arith
  call-numbers s (Messages b) = omega arith

  all-number : (s : Drive C W M) (calls : List (Call C W M)) → is_past n (all_called s calls) ≡ is_past n s + all_gives n s calls
  all-number s [] = omega arith
  all-number s (call ∷ calls) = omega (arith, call-numbers s call, all-number (called s call) calls)

  call-bears : (s : Drive C W M) (call : Call C W M) → bearers n (called s call).family ≤ bearers n s.family + gives n s call
  call-bears s (Create key) = omega (arith, sum_by_push (λ (c : Child (Option C)). same_serial n c.serial) s.family.live (record { key = key; serial = s.family.next; value = None }))
  call-bears s (CreateOwn key) = omega (arith, sum_by_push (λ (c : Child (Option C)). same_serial n c.serial) s.family.own (record { key = key; serial = s.family.next; value = None }))
  call-bears s (Destroy key serial) = omega (arith, without-le n s.family key serial)
  call-bears s (Configure key serial (Some c)) = omega (arith, valued-le n s.family key serial (Some c))
  call-bears s (Configure key serial None) = omega (arith, valued-le n s.family key serial None)
  call-bears s (Cancel serial (Some t)) = omega arith
  call-bears s (Cancel serial None) = omega arith
  call-bears s (CancelToken serial (Some t)) = omega arith
  call-bears s (CancelToken serial None) = omega arith
  call-bears s (Post serial owner work) = omega arith
  call-bears s (Book act) = omega arith
  call-bears s (Messages b) = omega arith

  all-bear : (s : Drive C W M) (calls : List (Call C W M)) → bearers n (all_called s calls).family ≤ bearers n s.family + all_gives n s calls
  all-bear s [] = omega arith
  all-bear s (call ∷ calls) = omega (arith, call-bears s call, all-bear (called s call) calls)

  pub given_once : (own first ticket : ℕ) (calls : List (Call C W M)) → first ≤ n
      → all_gives n (start_from own first ticket) calls ≡ is_past n (all_called (start_from own first ticket) calls)
  given_once own first ticket calls up =
      let none : is_past n (start_from {C = C} {W = W} {M = M} own first ticket) ≡ 0 = grind (arith, nat_tests) in
      omega (arith, none, all-number (start_from own first ticket) calls)

  pub borne_once : (own first ticket : ℕ) (calls : List (Call C W M)) → bearers n (all_called (start_from own first ticket) calls).family ≤ all_gives n (start_from own first ticket) calls
  borne_once own first ticket calls = omega (arith, all-bear (start_from own first ticket) calls)
