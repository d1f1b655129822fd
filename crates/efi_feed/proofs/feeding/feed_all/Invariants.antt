-- What was read so far was fed.
use Rattle.std.proofs.Common.{◌-◌, ◌≡◌, ◌≤◌, vec_len}
use Rattle.efi_feed.specs.Pieces.{HasTaken}
use Rattle.efi_feed.proofs.feeding.feed_all.Given as goal

abbrev pub invariant-loop-count : goal.invariant-loop-count
invariant-loop-count g l = record {
  room : vec_len l.room ≡ 65536;
  within : l.count ≤ 2147483649;
  fed : HasTaken g.F.Feed.has_fed (g.S.Source.left l.initial.src) (g.S.Source.left l.src) l.initial.reader l.reader l.count;
  faults : g.S.Source.faults l.src ≡ g.S.Source.faults l.initial.src;
}

abbrev pub decreases-loop-count : goal.decreases-loop-count
decreases-loop-count g l = 2147483649 - l.count
