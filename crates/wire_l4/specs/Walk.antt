-- The walk over the options of a TCP header, one option after the other.
use Rattle.std.specs.Prelude.{◌≡◌, ℕ, List, ◌∷◌, Option}
use Rattle.std.specs.Option.{option_map, option_or}
use Rattle.wire_l4.specs.declared.options.Options.{Options}
use Rattle.wire_l4.specs.Options.{Item, items_of, mss_in, shift_in}

-- the options that are read
pub record Known : Type 0 where
  pub mss : Option ℕ
  pub shift : Option ℕ

-- those of a header with these options
unfoldable pub known_in : List Item → Known
known_in items = record { mss = mss_in items; shift = shift_in items }

-- the first of each kind
unfoldable pub joined : Known → Known → Known
joined first second = record { mss = option_or first.mss second.mss; shift = option_or first.shift second.shift }

abbrev pub known_seen : Options → Known
known_seen options = record { mss = options.mss; shift = options.shift }

-- the options of the octets are this one and those of the rest
unfoldable pub BeginsWith : List ℕ → Item → List ℕ → Type 0
BeginsWith bytes item rest = items_of bytes ≡ option_map (λ items. item ∷ items) (items_of rest)
