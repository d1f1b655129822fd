-- How a table keeps children: a slot for each key, and the keys in the order of making.
use Rattle.std.specs.Prelude.{◌≡◌, ℕ, ◌≤◌, Bool, true, false, not, ◌==◌, ◌||◌, List, [], ◌∷◌, ◌++◌, length, filter_map, Option, Some, None, is_some, IsSomeAnd, if◌then◌else◌}
use Rattle.slab.specs.Slab.{Slab, get, slab_len}
use Rattle.efi_book.specs.declared.children.Child.{Child}

-- the key is among these
abbrev pub has_key : ℕ → List ℕ → Bool
has_key key [] = false
has_key key (k ∷ ks) = (k == key) || has_key key ks

abbrev pub is_not_key : ℕ → ℕ → Bool
is_not_key key k = not (k == key)

module _ {C : Type 0} where
  -- the child of a slot, where it has this serial
  abbrev pub in_slot : Option (Child C) → ℕ → Option (Child C)
  in_slot None serial = None
  in_slot (Some c) serial = if c.serial == serial then Some c else None

  -- the children under these keys
  abbrev pub children_at : (ℕ → Option (Child C)) → List ℕ → List (Child C)
  children_at at ks = filter_map at ks

  -- each key is there once, and under it a child that tells it
  abbrev pub Stands : (ℕ → Option (Child C)) → List ℕ → Type 0
  Stands at [] = Unit {0}
  Stands at (k ∷ ks) = IsSomeAnd (at k) (λ c. c.key ≡ k) × (has_key k ks ≡ false) × Stands at ks

  -- the order names each child of the slab, once, and there is room in both for so many
  pub record IsKept (slots : Slab (Child C)) (order : List ℕ) (room orders : ℕ) : Type 0 where
    pub stands : Stands (get slots) order
    pub known : (k : ℕ) → is_some (get slots k) ≡ true → has_key k order ≡ true
    pub count : slab_len slots ≡ length order
    pub slots_room : room ≤ slots.capacity
    pub order_room : room ≤ orders

-- what a contract sees of a table: the children in the order of their making, and how many there may be
pub record Rows (C : Type 0) : Type 0 where
  pub children : List (Child C)
  pub room : ℕ

module _ {C : Type 0} where
  abbrev pub no_rows : ℕ → Rows C
  no_rows room = record { children = []; room = room }

  abbrev pub with_rows : Rows C → List (Child C) → Rows C
  with_rows t cs = record { children = cs; room = t.room }

  abbrev pub with_row : Rows C → ℕ → ℕ → C → Rows C
  with_row t key serial value = with_rows t (t.children ++ record { key = key; serial = serial; value = value } ∷ [])
