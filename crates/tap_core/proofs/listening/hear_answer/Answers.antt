-- The record adds its packet to the pools, and one to the counts.
use Rattle.std.proofs.Common.{◌∙◌, [], sym, ap, refl}
use Rattle.ip_core.specs.Bytes.{bytes_kept}
use Rattle.ip_core.specs.Datagrams.{after_event}
use Rattle.tap_core.specs.Answering.{accepting_number}
use Rattle.tap_core.specs.Frames.{heard_packet}
use Rattle.tap_core.specs.Hearing.{event_heard, heard_at}
use Rattle.tap_core.specs.Seen.{syn_seen}
use Rattle.tap_core.proofs.HeardLaws.{pools-next}
use Rattle.tap_core.proofs.listening.hear_answer.Goals as goal

pub returns-clause-number : goal.returns-clause-number
returns-clause-number c = λ records h.
    let o = syn_seen c.args.l.now.syn in
    let r = c.args.«record».now in
    c.answer_at.ensures.number ∙ ap (λ p. accepting_number o.seq (heard_at o p r)) h.pools

pub returns-clause-listens : goal.returns-clause-listens
returns-clause-listens c = λ records h.
    let o = syn_seen c.args.l.now.syn in
    let r = c.args.«record».now in
    record {
      pools = c.answer_at.ensures.pools ∙ ap (λ p. after_event bytes_kept p (event_heard o r)) h.pools ∙ sym (pools-next (heard_packet o.station) [] records r);
      counts = c.in_ok-l.ensures o records refl h.counts;
    }
