-- The number of a segment that accepts a connection.
use Rattle.std.specs.Prelude.{ℕ, Option, Some, None, if◌then◌else◌}
use Rattle.std.specs.Option.{option_and_then}
use Rattle.wire_l4.specs.Segment.{Segment}
use Rattle.tap_core.specs.Segments.{accepts}

-- the number of a segment that accepts the connection
abbrev pub accepting_number : ℕ → Option Segment → Option ℕ
accepting_number seq heard = option_and_then (λ s. if accepts seq s then Some s.seq else None) heard
