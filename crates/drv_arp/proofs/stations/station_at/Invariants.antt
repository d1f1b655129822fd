use Rattle.std.proofs.Common.{◌≡◌, drop}
use Rattle.drv_arp.specs.Stations.{station_at}
use Rattle.drv_arp.proofs.stations.station_at.Given as goal

abbrev pub invariant-loop-s : goal.invariant-loop-s
invariant-loop-s l = station_at (drop l.s-index l.stations) l.ip.0 ≡ station_at l.stations l.ip.0
