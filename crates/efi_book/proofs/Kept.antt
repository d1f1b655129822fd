-- A table whose child under a key is another one: it is still kept, and which children it has.
use Rattle.std.proofs.Common.{◌≡◌, ℕ, true, is_some, IsSomeAnd, List, map, Option, Some, None, cond, refl, ap, ◌∙◌, arith}
use Rattle.std.proofs.lemmas.List.Sums.{sum_by-set}
use Rattle.slab.specs.Slab.{Slab, get, with_value}
use Rattle.slab.proofs.SlabLemmas.{Updates-with_value, ContainsKey-within}
use Rattle.efi_book.specs.declared.children.Child.{Child}
use Rattle.efi_book.specs.Tables.{IsKept, Stands, has_key, children_at}
use Rattle.efi_book.specs.Families.{renewed}
use Rattle.efi_book.proofs.Places.{stands_renewed, known_renewed, renew, names, serial_is}

module _ {C : Type 0} where
  pub kept_with : (s : Slab (Child C)) (ks : List ℕ) (room orders key : ℕ) (new : Child C) → IsKept s ks room orders → is_some (get s key) ≡ true → new.key ≡ key
      → IsKept (with_value s key new) ks room orders
  kept_with s ks room orders key new h there named =
      let up = Updates-with_value s key new there in
      let f : Option (Child C) → ℕ = λ o. cond (is_some o) 1 0 in
      let one : f (get s key) ≡ f (Some new) = ap (λ b. cond b 1 0) there in
      record {
        stands = stands_renewed (get s) (get (with_value s key new)) ks key new h.stands up.changed named up.others;
        known = λ k x. known_renewed (get s) (get (with_value s key new)) ks key k h.known there up.others x;
        count = omega (arith, h.count, one, sum_by-set f s.slots key (Some new) None (ContainsKey-within s key there));
        slots_room = h.slots_room;
        order_room = h.order_room;
      }

  -- the table's children, where another value is written under the key of a child with this serial
  pub row_lent : (s : Slab (Child C)) (ks : List ℕ) (key serial : ℕ) (old : Child C) → Stands (get s) ks → get s key ≡ Some old → has_key key ks ≡ true
      → IsSomeAnd (get s key) (λ c. c.serial ≡ serial) → (w : C)
      → children_at (get (with_value s key (record { key = old.key; serial = old.serial; value = w }))) ks ≡ map (renewed key serial w) (children_at (get s) ks)
  row_lent s ks key serial old h e known was w =
      let new : Child C = record { key = old.key; serial = old.serial; value = w } in
      let there : is_some (get s key) ≡ true = ap is_some e in
      let up = Updates-with_value s key new there in
      let k : old.key ≡ key = names (get s) ks key old h e known in
      let n : old.serial ≡ serial = serial_is (get s key) old serial e was in
      let is : new ≡ record { key = key; serial = serial; value = w } = rw (k, n) refl in
      renew (get s) (get (with_value s key new)) ks key serial w h (up.changed ∙ ap Some is) was up.others
