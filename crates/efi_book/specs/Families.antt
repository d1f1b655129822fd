-- What a contract sees of the children of a driver.
use Rattle.std.specs.Prelude.{ℕ, ◌+◌, ◌-◌, ◌^◌, Bool, ◌==◌, ◌&&◌, not, nat_le, is_some, is_none, List, [], ◌∷◌, ◌++◌, length, map, filter, find, Option, Some, None, option_map, if◌then◌else◌}
use Rattle.efi_base.specs.declared.refuse.Refuse.{Refuse}
use Rattle.efi_base.specs.declared.refuse.Refuse.TheVariants.{BadHandle, NotReady, Exhausted}
use Rattle.efi_base.specs.Refusals.{first_of, refuse_if}
use Rattle.efi_book.specs.declared.children.Child.{Child}

-- the callers' live children and the stack's own, each in the order of making, the serial of the next one of either,
-- and how many there may be
pub record Family (C : Type 0) : Type 0 where
  pub live : List (Child C)
  pub own : List (Child C)
  pub next : ℕ
  pub room : ℕ
  pub own_room : ℕ

module _ {C : Type 0} where
  abbrev pub no_children : ℕ → ℕ → Family C
  no_children room own_room = record { live = []; own = []; next = 1; room = room; own_room = own_room }

  abbrev pub no_children_from : ℕ → ℕ → ℕ → Family C
  no_children_from room own_room next = record { live = []; own = []; next = next; room = room; own_room = own_room }

  -- the child with this key and serial
  abbrev pub is_named : ℕ → ℕ → Child C → Bool
  is_named key serial child = child.key == key && child.serial == serial

  abbrev pub either : Option (Child C) → Option (Child C) → Option (Child C)
  either (Some child) other = Some child
  either None other = other

  abbrev pub is_not_named : ℕ → ℕ → Child C → Bool
  is_not_named key serial child = not (is_named key serial child)

  abbrev pub child_of : Family C → ℕ → ℕ → Option (Child C)
  child_of f key serial = either (find (is_named key serial) f.live) (find (is_named key serial) f.own)

  -- a caller's child has this handle
  abbrev pub is_callers : Family C → ℕ → ℕ → Bool
  is_callers f key serial = is_some (find (is_named key serial) f.live)

  -- no live child has this handle
  abbrev pub handle_refusal : Family C → ℕ → ℕ → Option Refuse
  handle_refusal f key serial = refuse_if (is_none (child_of f key serial)) BadHandle

  abbrev pub create_refusal : Family C → Option Refuse
  create_refusal f =
      first_of (refuse_if (nat_le f.room (length f.live)) NotReady) (refuse_if (nat_le (2 ^ 64 - 1) f.next) Exhausted)

  abbrev pub create_own_refusal : Family C → Option Refuse
  create_own_refusal f =
      first_of (refuse_if (nat_le f.own_room (length f.own)) NotReady) (refuse_if (nat_le (2 ^ 64 - 1) f.next) Exhausted)

  -- one more child, under some key
  abbrev pub with_child : Family C → ℕ → C → Family C
  with_child f key value = record {
    live = f.live ++ record { key = key; serial = f.next; value = value } ∷ [];
    own = f.own;
    next = f.next + 1;
    room = f.room;
    own_room = f.own_room;
  }

  abbrev pub with_own : Family C → ℕ → C → Family C
  with_own f key value = record {
    live = f.live;
    own = f.own ++ record { key = key; serial = f.next; value = value } ∷ [];
    next = f.next + 1;
    room = f.room;
    own_room = f.own_room;
  }

  abbrev pub with_tables : Family C → List (Child C) → List (Child C) → Family C
  with_tables f live own = record { live = live; own = own; next = f.next; room = f.room; own_room = f.own_room }

  -- the named child is gone
  abbrev pub without_child : Family C → ℕ → ℕ → Family C
  without_child f key serial =
      if is_callers f key serial
      then with_tables f (filter (is_not_named key serial) f.live) f.own
      else with_tables f f.live (filter (is_not_named key serial) f.own)

  abbrev pub renewed : ℕ → ℕ → C → Child C → Child C
  renewed key serial value child = if is_named key serial child then record { key = key; serial = serial; value = value } else child

  -- the named child has another value
  abbrev pub with_value : Family C → ℕ → ℕ → C → Family C
  with_value f key serial value =
      if is_callers f key serial
      then with_tables f (map (renewed key serial value) f.live) f.own
      else with_tables f f.live (map (renewed key serial value) f.own)

  abbrev pub value_of : Family C → ℕ → ℕ → Option C
  value_of f key serial = option_map (λ (c : Child C). c.value) (child_of f key serial)
