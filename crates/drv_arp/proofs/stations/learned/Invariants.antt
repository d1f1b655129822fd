use Rattle.std.proofs.Common.{◌≡◌, ◌≤◌, ◌++◌, drop, map}
use Rattle.arrayvec.specs.ArrayVec.{array_vec_len}
use Rattle.drv_arp.specs.Stations.{learned}
use Rattle.drv_arp.proofs.stations.learned.Given as goal

abbrev pub invariant-loop-ip : goal.invariant-loop-ip
invariant-loop-ip l = record {
  made : l.all.items ++ map (learned l.stations l.next) (drop l.ip-index l.a) ≡ map (learned l.stations l.next) l.a;
  count : array_vec_len l.all ≤ l.ip-index;
}
