use Rattle.std.proofs.Common.{◌≡◌, ◌-◌, ◌≤◌, length, drop, find}
use Rattle.efi_book.specs.Drives.{drive}
use Rattle.efi_book.specs.Cores.{is_configured}
use Rattle.efi_book.proofs.driver.Core.is_busy.Given as goal

abbrev pub invariant-loop-i : goal.invariant-loop-i
invariant-loop-i g l = record {
  within : l.i ≤ length (drive l.self).family.live;
  passed : find is_configured (drop l.i (drive l.self).family.live) ≡ find is_configured (drive l.self).family.live;
}

abbrev pub decreases-loop-i : goal.decreases-loop-i
decreases-loop-i g l = length (drive l.self).family.live - l.i
