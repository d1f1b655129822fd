-- The bytes that are kept stand for the fragments that came.
use Rattle.std.specs.Prelude.{◌≡◌, ℕ, zero, suc, List, [], ◌∷◌, Option, None}
use Rattle.wire_ip4.specs.Packet.{Packet}
use Rattle.ip_core.specs.Pools.{Pool}
use Rattle.ip_core.specs.Bytes.{Bytes}
use Rattle.ip_core.specs.Datagrams.{byte_at, end_of}

-- the byte that is kept at a place
abbrev pub kept_at : List (Option ℕ) → ℕ → Option ℕ
kept_at [] place = None
kept_at (b ∷ held) zero = b
kept_at (b ∷ held) (suc place) = kept_at held place

-- the same end, and at each place the same byte
pub record AreBytesOf (fragments : List Packet) (b : Bytes) : Type 0 where
  pub end : b.end ≡ end_of fragments
  pub bytes : (place : ℕ) → kept_at b.held place ≡ byte_at fragments place

-- a pool of bytes for a pool of fragments
pub record StandsFor (pool : Pool (List Packet)) (slot : Pool Bytes) : Type 0 where
  pub key : slot.key ≡ pool.key
  pub opened : slot.opened ≡ pool.opened
  pub kept : AreBytesOf pool.kept slot.kept

-- each pool for one
abbrev pub StandFor : List (Pool (List Packet)) → List (Pool Bytes) → Type 0
StandFor [] [] = Unit {0}
StandFor [] (slot ∷ slots) = ⊥
StandFor (pool ∷ pools) [] = ⊥
StandFor (pool ∷ pools) (slot ∷ slots) = StandsFor pool slot × StandFor pools slots
