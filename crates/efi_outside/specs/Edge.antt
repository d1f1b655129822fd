-- Readers and writers of the system, as others see them.
use Rattle.std.specs.Prelude.{ℕ, List, Option}

-- the octets that a reader has left or a writer holds, where it tells them, and how often it failed
pub record Edge : Type 0 where
  pub octets : Option (List ℕ)
  pub faults : ℕ
