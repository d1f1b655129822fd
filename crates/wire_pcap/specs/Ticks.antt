-- The moments of a capture's records, in order.
use Rattle.std.specs.Prelude.{ℕ, ⊤, ◌<◌, ◌≤◌, ◌^◌, List, [], ◌∷◌}
use Rattle.efi_base.specs.declared.plain.Record.{Record}

-- no tick falls, from this one on, and each is below 2^43
abbrev pub RiseFrom : ℕ → List Record → Type 0
RiseFrom before [] = ⊤
RiseFrom before (r ∷ rs) = (before ≤ r.tick.0) × (r.tick.0 < 2 ^ 43) × RiseFrom r.tick.0 rs
