-- The record adds its packet to the pools, one to the counts, and its segment to the download.
use Rattle.std.proofs.Common.{◌∙◌, [], sym, ap, subst, refl}
use Rattle.ip_core.specs.Bytes.{bytes_kept}
use Rattle.ip_core.specs.Datagrams.{after_event}
use Rattle.tap_core.specs.Connections.{after_heard, is_reset_at}
use Rattle.tap_core.specs.Following.{Follows}
use Rattle.tap_core.specs.Frames.{heard_packet}
use Rattle.tap_core.specs.Hearing.{event_heard, heard_at}
use Rattle.tap_core.specs.Seen.{syn_seen}
use Rattle.tap_core.proofs.HeardLaws.{pools-next}
use Rattle.tap_core.proofs.listening.hear_segment.Goals as goal

pub returns-clause-follows : goal.returns-clause-follows
returns-clause-follows c = λ records h most irs board room f.
    let o = syn_seen c.args.l.now.syn in
    let r = c.args.«record».now in
    let step = c.in_ok-reset.ensures.follows most irs board room f in (
      step.0 ∙ ap (λ p. is_reset_at irs board (heard_at o p r)) h.pools,
      subst (λ p. Follows most irs (after_heard irs board (heard_at o p r)) c.take_in.new.download) h.pools step.1,
    )

pub returns-clause-listens : goal.returns-clause-listens
returns-clause-listens c = λ records h.
    let o = syn_seen c.args.l.now.syn in
    let r = c.args.«record».now in
    record {
      pools = c.take_in.ensures.pools ∙ ap (λ p. after_event bytes_kept p (event_heard o r)) h.pools ∙ sym (pools-next (heard_packet o.station) [] records r);
      counts = c.in_ok-l.ensures o records refl h.counts;
    }
