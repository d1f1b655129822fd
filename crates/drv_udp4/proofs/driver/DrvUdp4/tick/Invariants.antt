use Rattle.std.proofs.Common.{◌≡◌, ◌-◌, ◌≤◌}
use Rattle.efi_book.specs.Books.{Keeps}
use Rattle.drv_udp4.specs.Ticks.{ticked}
use Rattle.drv_udp4.proofs.driver.DrvUdp4.tick.Given as goal

abbrev pub invariant-loop-m : goal.invariant-loop-m
invariant-loop-m l = record {
  before : l.self.moment.0 ≤ l.now.0;
  whole : ticked (l.now.0 - l.self.moment.0) l.self ≡ ticked (l.now.0 - l.initial.self.moment.0) l.initial.self;
  keeps : Keeps l.initial.self.drive.tokens l.self.drive.tokens;
}

abbrev pub decreases-loop-m : goal.decreases-loop-m
decreases-loop-m l = l.now.0 - l.self.moment.0
