-- The datagrams of the packets that are heard (RFC 791, section 3.2): what is kept of a key's fragments are the
-- fragments themselves, in the order in which they came.
use Rattle.std.specs.Prelude.{ℕ, suc, zero, ◌-◌, nat_le, List, [], ◌∷◌, ◌++◌, fold, Option, Some, None, slice_get, if◌then◌else◌}
use Rattle.std.specs.Option.{option_and_then}
use Rattle.wire_ip4.specs.Packet.{Packet}
use Rattle.ip_core.specs.Pools.{Keeping, Pool, Datagram, reach_of, datagram_at, after_packet, open_at}

-- the first of two values that is there
abbrev pub first_there : Option ℕ → Option ℕ → Option ℕ
first_there None later = later
first_there (Some b) later = Some b

-- the byte that a fragment has at a place of its datagram
abbrev pub byte_in : Packet → ℕ → Option ℕ
byte_in f place = if nat_le f.place place then slice_get f.payload (place - f.place) else None

-- the byte at a place: the first one stays
abbrev pub byte_at : List Packet → ℕ → Option ℕ
byte_at [] place = None
byte_at (f ∷ later) place = first_there (byte_in f place) (byte_at later place)

-- the end, which the first fragment sets that no more follow
abbrev pub end_of : List Packet → Option ℕ
end_of [] = None
end_of (f ∷ later) = if f.mf then end_of later else Some (reach_of f)

abbrev pub cons_there : Option ℕ → Option (List ℕ) → Option (List ℕ)
cons_there None rest = None
cons_there (Some b) None = None
cons_there (Some b) (Some rest) = Some (b ∷ rest)

-- the bytes at the places below an end, where no place is without one
abbrev pub bytes_below : ℕ → (ℕ → Option ℕ) → Option (List ℕ)
bytes_below zero at = Some []
bytes_below (suc end) at = cons_there (at 0) (bytes_below end (λ place. at (suc place)))

-- the bytes of a datagram's fragments, once there is an end and no gap below it
abbrev pub whole_of : List Packet → Option (List ℕ)
whole_of fragments = option_and_then (λ end. bytes_below end (byte_at fragments)) (end_of fragments)

abbrev pub fragments_kept : Keeping (List Packet)
fragments_kept = record { nothing = []; add = λ fragments f. fragments ++ f ∷ []; whole = whole_of }

-- a packet that is heard at a tick, or a tick that passes
pub data Event : Type 0 where
  heard : ℕ → Packet → Event
  passed : ℕ → Event

module _ {X : Type 0} where
  -- the open pools after an event
  abbrev pub after_event : Keeping X → List (Pool X) → Event → List (Pool X)
  after_event k pools (heard now p) = after_packet k pools now p
  after_event k pools (passed now) = open_at now pools

  -- the datagram that exists at an event
  abbrev pub event_datagram : Keeping X → List (Pool X) → Event → Option Datagram
  event_datagram k pools (heard now p) = datagram_at k pools now p
  event_datagram k pools (passed now) = None

  -- at each of the events the datagram that exists at it, with these pools open before them
  abbrev pub event_datagrams : Keeping X → List (Pool X) → List Event → List (Option Datagram)
  event_datagrams k pools [] = []
  event_datagrams k pools (e ∷ events) = event_datagram k pools e ∷ event_datagrams k (after_event k pools e) events

-- at each of the events the datagram that exists at it
abbrev pub datagrams_of : List Event → List (Option Datagram)
datagrams_of events = event_datagrams fragments_kept [] events

-- the open pools after a list of events
abbrev pub pools_after : List Event → List (Pool (List Packet))
pools_after events = fold (after_event fragments_kept) [] events
