-- How the fragments of many datagrams are kept apart until each is whole (RFC 791, section 3.2). A pool holds the
-- fragments of one datagram. What is kept of them is left open here: the definition of datagrams keeps the fragments
-- themselves, and the reassembly their bytes.
use Rattle.std.specs.Prelude.{ℕ, ◌+◌, ◌-◌, ◌&&◌, ◌||◌, ◌==◌, not, Bool, nat_lt, nat_le, List, [], ◌∷◌, length, filter, Option, Some, None, is_some, if◌then◌else◌}
use Rattle.std.specs.List.{list_any}
use Rattle.std.specs.Option.{option_map}
use Rattle.wire_ip4.specs.Packet.{Packet, is_fragment}

-- what the fragments of one datagram have in common
pub record Key : Type 0 where
  pub src : ℕ
  pub dest : ℕ
  pub proto : ℕ
  pub id : ℕ

abbrev pub key_of : Packet → Key
key_of p = record { src = p.src; dest = p.dest; proto = p.proto; id = p.id }

abbrev pub is_key : Key → Key → Bool
is_key k l = k.src == l.src && (k.dest == l.dest && (k.proto == l.proto && k.id == l.id))

-- a datagram, without what its header says besides
pub record Datagram : Type 0 where
  pub src : ℕ
  pub dest : ℕ
  pub proto : ℕ
  pub id : ℕ
  pub payload : List ℕ

-- the datagram that a packet belongs to, with these bytes
abbrev pub datagram_with : Packet → List ℕ → Datagram
datagram_with p bytes = record { src = p.src; dest = p.dest; proto = p.proto; id = p.id; payload = bytes }

-- the place behind a fragment's last byte
abbrev pub reach_of : Packet → ℕ
reach_of f = f.place + length f.payload

-- how many bytes a datagram has at most: its total length has 16 bits, and 20 of its bytes are the header
abbrev pub most_bytes : ℕ
most_bytes = 65515

-- how many pools may be open
abbrev pub most_pools : ℕ
most_pools = 16

-- for how many ticks a pool lasts
abbrev pub lifetime : ℕ
lifetime = 30000

-- a way to keep fragments: nothing, what is kept with one more, and the bytes once all are there
pub record Keeping (X : Type 0) : Type 0 where
  pub nothing : X
  pub add : X → Packet → X
  pub whole : X → Option (List ℕ)

-- a pool: the key of its fragments, the tick at which it opened, and what is kept of them
pub record Pool (X : Type 0) : Type 0 where
  pub key : Key
  pub opened : ℕ
  pub kept : X

module _ {X : Type 0} where
  -- the pool isn't over yet
  abbrev pub lasts : ℕ → Pool X → Bool
  lasts now pool = nat_lt (now - pool.opened) lifetime

  -- the pools that are open at a tick
  abbrev pub open_at : ℕ → List (Pool X) → List (Pool X)
  open_at now pools = filter (lasts now) pools

  -- the pool is this key's
  abbrev pub is_of : Key → Pool X → Bool
  is_of key pool = is_key key pool.key

  -- A fragment is dropped that reaches past the most bytes, and one of a new key while all pools are open.
  abbrev pub is_dropped : Packet → List (Pool X) → Bool
  is_dropped f pools = nat_lt most_bytes (reach_of f) || (not (list_any (is_of (key_of f)) pools) && nat_le most_pools (length pools))

  -- what is kept of a key's fragments
  abbrev pub kept_of : Keeping X → Key → List (Pool X) → X
  kept_of k key [] = k.nothing
  kept_of k key (pool ∷ pools) = if is_of key pool then pool.kept else kept_of k key pools

  -- the pools with this kept in the key's one, which opens where there is none
  abbrev pub with_kept : Key → ℕ → X → List (Pool X) → List (Pool X)
  with_kept key now kept [] = record { key = key; opened = now; kept = kept } ∷ []
  with_kept key now kept (pool ∷ pools) =
      if is_of key pool then record { key = pool.key; opened = pool.opened; kept = kept } ∷ pools
      else pool ∷ with_kept key now kept pools

  -- the pools without the key's one
  abbrev pub without : Key → List (Pool X) → List (Pool X)
  without key [] = []
  without key (pool ∷ pools) = if is_of key pool then pools else pool ∷ without key pools

  -- what is kept of the fragments of a fragment's key, with this one
  abbrev pub kept_with : Keeping X → Packet → List (Pool X) → X
  kept_with k f pools = k.add (kept_of k (key_of f) pools) f

  -- the bytes that are whole at this fragment
  abbrev pub joined : Keeping X → List (Pool X) → Packet → Option (List ℕ)
  joined k pools f = if is_dropped f pools then None else k.whole (kept_with k f pools)

  -- the open pools after a fragment: its pool closes where its datagram is whole
  abbrev pub after_fragment : Keeping X → ℕ → List (Pool X) → Packet → List (Pool X)
  after_fragment k now pools f =
      if is_dropped f pools then pools
      else (if is_some (k.whole (kept_with k f pools)) then without (key_of f) pools
      else with_kept (key_of f) now (kept_with k f pools) pools)

  -- the datagram that exists at a packet: an unfragmented one is a datagram by itself
  abbrev pub datagram_at : Keeping X → List (Pool X) → ℕ → Packet → Option Datagram
  datagram_at k pools now p =
      if is_fragment p then option_map (datagram_with p) (joined k (open_at now pools) p)
      else Some (datagram_with p p.payload)

  -- the open pools after a packet
  abbrev pub after_packet : Keeping X → List (Pool X) → ℕ → Packet → List (Pool X)
  after_packet k pools now p =
      if is_fragment p then after_fragment k now (open_at now pools) p
      else open_at now pools
