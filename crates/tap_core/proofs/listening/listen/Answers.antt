-- The pools are those that the kept fragments leave to the station, and the counts its own.
use Rattle.std.proofs.Common.{◌∙◌, refl}
use Rattle.tap_core.specs.Seen.{syn_seen}
use Rattle.tap_core.proofs.listening.listen.Goals as goal

pub returns-clause-listens : goal.returns-clause-listens
returns-clause-listens c = λ records early tally. record {
  pools = c.in_ok-reasm.ensures ∙ early.pools (syn_seen c.args.syn);
  counts = c.counts-counts.ensures records (syn_seen c.args.syn) tally refl;
}
