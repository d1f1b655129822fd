-- The sources and sinks in memory of which some calls are to fail, as others see them.
use Rattle.std.specs.Prelude.{ℕ, ◌+◌, ◌-◌, ◌^◌, min, List, Contains}

-- the octets that a source has left or a sink holds, the numbers of the calls that fail, counted from 1, how many
-- calls there were, and how many of them failed; both counts stay at the end of their type
pub record Memory : Type 0 where
  pub octets : List ℕ
  pub failing : List ℕ
  pub calls : ℕ
  pub faults : ℕ

-- one more, up to the end of the type
abbrev pub count_up : ℕ → ℕ
count_up n = min (n + 1) (2 ^ 64 - 1)

-- the number of the next call is among those that fail
abbrev pub FailsNext : Memory → Type 0
FailsNext m = Contains m.failing (count_up m.calls)

-- after a call that failed
abbrev pub after_fault : Memory → Memory
after_fault m = record m { calls = count_up m.calls; faults = count_up m.faults }

-- after a call that left these octets
abbrev pub after_call : Memory → List ℕ → Memory
after_call m octets = record m { octets = octets; calls = count_up m.calls }
