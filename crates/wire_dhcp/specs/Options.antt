-- Options one behind the other (RFC 2132, section 2): a code, the length of the value, the value. A 0 is padding, and 255
-- ends them.
use Rattle.std.specs.Prelude.{ℕ, zero, suc, ◌==◌, ◌||◌, nat_le, Bool, false, List, [], ◌∷◌, ◌++◌, length, take, filter, Option, Some, None, if◌then◌else◌}

-- an option: its code and its value
pub record Item : Type 0 where
  pub code : ℕ
  pub value : List ℕ

-- the options up to the 255, or up to the first that runs past the octets; so many octets in front belong to a value
abbrev pub items_from : ℕ → List ℕ → List Item
items_from left [] = []
items_from (suc left) (octet ∷ octets) = items_from left octets
items_from zero (zero ∷ octets) = items_from zero octets
items_from zero (suc c ∷ []) = []
items_from zero (suc c ∷ size ∷ octets) =
    if suc c == 255 then []
    else if nat_le size (length octets) then record { code = suc c; value = take size octets } ∷ items_from size octets
    else []

-- whether a 255 ends them within the octets
abbrev pub ends_from : ℕ → List ℕ → Bool
ends_from left [] = false
ends_from (suc left) (octet ∷ octets) = ends_from left octets
ends_from zero (zero ∷ octets) = ends_from zero octets
ends_from zero (suc c ∷ []) = suc c == 255
ends_from zero (suc c ∷ size ∷ octets) = suc c == 255 || ends_from size octets

abbrev pub items_in : List ℕ → List Item
items_in octets = items_from 0 octets

abbrev pub is_ended : List ℕ → Bool
is_ended octets = ends_from 0 octets

-- a value, continued by the next of the same code (RFC 3396, section 7)
abbrev pub continued : Option (List ℕ) → Option (List ℕ) → Option (List ℕ)
continued None next = next
continued (Some value) None = Some value
continued (Some value) (Some next) = Some (value ++ next)

abbrev pub own_value : ℕ → Item → Option (List ℕ)
own_value code item = if item.code == code then Some item.value else None

-- the values of this code, joined in order, or None where no option has it
abbrev pub value_of : ℕ → List Item → Option (List ℕ)
value_of code [] = None
value_of code (item ∷ items) = continued (own_value code item) (value_of code items)

-- how many options have this code
abbrev pub count_of : ℕ → List Item → ℕ
count_of code items = length (filter (λ item. item.code == code) items)
