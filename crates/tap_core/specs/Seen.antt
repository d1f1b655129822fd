-- The values of the crate as contracts see them.
use Rattle.tap_core.specs.declared.opening.Syn.{Syn}
use Rattle.tap_core.specs.Openings.{Opening}

abbrev pub syn_seen : Syn → Opening
syn_seen s = record { station = s.station.0; src = s.src.0; sport = s.sport; dest = s.dest.0; dport = s.dport; seq = s.seq }
