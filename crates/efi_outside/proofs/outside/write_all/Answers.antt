-- What a write took joins what was taken before it.
use Rattle.std.proofs.Common.{◌∙◌}
use Rattle.efi_outside.proofs.Known.{piece-within, Appends-piece}
use Rattle.efi_outside.proofs.outside.write_all.Goals as goal

pub loop-done-preserved : goal.loop-done-preserved
loop-done-preserved g c = record {
  within = piece-within _ _ _ c.loop-done.invariant.within c.in_ok-done.ensures.bound;
  taken = Appends-piece _ _ _ _ _ _ c.loop-done.invariant.taken c.in_ok-done.ensures.bytes;
  count = c.in_ok-done.ensures.cause.kept ∙ c.loop-done.invariant.count;
}
