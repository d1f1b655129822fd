-- The pools are those behind the fragments so far.
use Rattle.std.proofs.Common.{◌≡◌, [], fold, take}
use Rattle.tap_core.specs.Early.{after_kept}
use Rattle.tap_core.specs.Seen.{syn_seen}
use Rattle.tap_core.proofs.early.Fragments.pools.Given as goal

abbrev pub invariant-loop-fragment : goal.invariant-loop-fragment
invariant-loop-fragment l = l.reasm ≡ fold (after_kept (syn_seen l.syn)) [] (take l.fragment-index l.self.kept.items)
