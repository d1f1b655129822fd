-- The station's addresses: each is answered as if a child had it whose entries don't end.
use Rattle.std.specs.Prelude.{ℕ, Bool, ◌==◌, List, find, Option, Some, None}
use Rattle.efi_base.specs.declared.plain.Ip4.{Ip4}
use Rattle.drv_arp.specs.declared.stations.Station.{Station}

abbrev pub is_at : ℕ → Station → Bool
is_at ip s = s.ip.0 == ip

abbrev pub station_at : List Station → ℕ → Option Station
station_at ss ip = find (is_at ip) ss

-- the serial from which on children are younger than it
abbrev pub since_of : Option Station → ℕ → ℕ
since_of None next = next
since_of (Some s) next = s.since

-- an address of the station that was one before keeps its age; another is as old as the child would be that is made next
abbrev pub learned : List Station → ℕ → Ip4 → Station
learned ss next ip = record { ip = ip; since = since_of (station_at ss ip.0) next }
