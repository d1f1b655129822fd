-- One step of the walk over options.
use Rattle.std.specs.Prelude.{◌≡◌, ◌<◌, ◌+◌, ℕ, Bool, true, false, List, [], ◌∷◌, length, map}
use Rattle.wire_dhcp.specs.declared.options.DhcpOption.{DhcpOption}
use Rattle.wire_dhcp.specs.declared.options.Front.{Front}
use Rattle.wire_dhcp.specs.declared.options.Front.TheVariants.{Whole, End, Cut}
use Rattle.wire_dhcp.specs.Options.{Item, items_in, is_ended}

-- an option without where it lies in memory
abbrev pub item_seen : DhcpOption → Item
item_seen o = record { code = o.code; value = o.value.now }

-- the octets are an option and the rest, as options and as to whether they are ended
pub record Begins (octets : List ℕ) (item : Item) (rest : List ℕ) : Type 0 where
  pub items : items_in octets ≡ item ∷ items_in rest
  pub ended : is_ended octets ≡ is_ended rest
  pub shorter : length item.value + length rest < length octets

-- there is no option, and they are ended or not
pub record HasNone (octets : List ℕ) (ended : Bool) : Type 0 where
  pub items : items_in octets ≡ []
  pub ended_is : is_ended octets ≡ ended

-- what stands in front
abbrev pub FrontIs : List ℕ → Front → Type 0
FrontIs octets (Whole option rest) = Begins octets (item_seen option) rest.now
FrontIs octets End = HasNone octets true
FrontIs octets Cut = HasNone octets false

abbrev pub items_seen : List DhcpOption → List Item
items_seen options = map item_seen options
