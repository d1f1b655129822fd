-- The options of a TCP header (RFC 9293, section 3.1; window scale: RFC 7323, section 2.2).
use Rattle.std.specs.Prelude.{ℕ, zero, suc, ◌-◌, ◌&&◌, ◌==◌, nat_le, List, [], ◌∷◌, length, take, find, Option, Some, None, if◌then◌else◌}
use Rattle.std.specs.Option.{option_map}
use Rattle.byteorder.specs.Endian.{big_number}

-- an option: its kind, and the octets behind its length
pub record Item : Type 0 where
  pub kind : ℕ
  pub value : List ℕ

-- the options that stand in the octets, once so many octets are passed over. Kind 0 ends them, kind 1 is one octet,
-- and each other kind has a length that counts the octets of kind and length too and lies within the header.
abbrev pub items_behind : ℕ → List ℕ → Option (List Item)
items_behind (suc n) [] = None
items_behind (suc n) (b ∷ bytes) = items_behind n bytes
items_behind zero [] = Some []
items_behind zero (zero ∷ bytes) = Some []
items_behind zero (suc zero ∷ bytes) = items_behind zero bytes
items_behind zero (suc (suc kind) ∷ []) = None
items_behind zero (suc (suc kind) ∷ len ∷ bytes) =
    if nat_le 2 len
    then option_map (λ items. record { kind = suc (suc kind); value = take (len - 2) bytes } ∷ items) (items_behind (len - 2) bytes)
    else None

-- the options of a header, None where they are malformed
abbrev pub items_of : List ℕ → Option (List Item)
items_of bytes = items_behind zero bytes

-- the value of the first option of this kind and of so many octets; others of the kind are skipped
abbrev pub first_value : ℕ → ℕ → List Item → Option (List ℕ)
first_value kind size items = option_map (λ i. i.value) (find (λ i. i.kind == kind && length i.value == size) items)

-- the largest segment that the sender takes, of kind 2
abbrev pub mss_in : List Item → Option ℕ
mss_in items = option_map (big_number 2) (first_value 2 2 items)

-- the shift of the sender's window, of kind 3
abbrev pub shift_in : List Item → Option ℕ
shift_in items = option_map (big_number 1) (first_value 3 1 items)
