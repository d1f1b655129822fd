-- The values of the crate as contracts see them.
use Rattle.ip_core.specs.declared.slot.FragmentKey.{FragmentKey}
use Rattle.ip_core.specs.declared.whole.Whole.{Whole}
use Rattle.ip_core.specs.Pools.{Key, Datagram}

abbrev pub key_seen : FragmentKey → Key
key_seen k = record { src = k.src.0; dest = k.dest.0; proto = k.proto; id = k.id }

-- a datagram without where its payload lies in memory
abbrev pub whole_seen : Whole → Datagram
whole_seen w = record { src = w.src.0; dest = w.dest.0; proto = w.proto; id = w.id; payload = w.payload.now }
