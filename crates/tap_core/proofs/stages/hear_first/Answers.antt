-- The record is counted, and kept if it is a fragment. Where it asks for a connection the station has heard all so far.
use Rattle.std.proofs.Common.{◌∙◌, ◌∷◌, ◌++◌, [], option_map, sym, ap}
use Rattle.ip_core.specs.Bytes.{bytes_kept}
use Rattle.ip_core.specs.Datagrams.{after_event, event_datagram}
use Rattle.ip_core.specs.Frames.{event_of}
use Rattle.tap_core.specs.Frames.{any_packet}
use Rattle.tap_core.specs.Openings.{opening_at}
use Rattle.tap_core.specs.Seen.{syn_seen}
use Rattle.tap_core.proofs.HeardLaws.{pools-next}
use Rattle.tap_core.proofs.Records.{asked-none}
use Rattle.tap_core.proofs.Steps.{answering-first}
use Rattle.tap_core.proofs.stages.hear_first.Goals as goal

pub returns-in_default : goal.returns-in_default
returns-in_default c = λ most records w.
    let r = c.args.«record» in
    record {
      none = asked-none records r w.none (ap (λ p. opening_at r (event_datagram bytes_kept p (event_of any_packet r))) (sym w.pools)
          ∙ sym c.asked_at-asked.ensures.asked ∙ ap (option_map syn_seen) c.in_default.is);
      pools = c.asked_at-asked.ensures.pools ∙ ap (λ p. after_event bytes_kept p (event_of any_packet r)) w.pools ∙ sym (pools-next any_packet [] records r);
      early = c.in_ok-hear.ensures records w.early;
      tally = c.in_ok-count.ensures records w.tally;
    }

pub returns : goal.returns
returns c = λ most records w.
    let r = c.args.«record» in
    let l = c.in_ok-listener in
    answering-first records r l.listener (syn_seen c.in-Some.syn) (ap syn_seen l.ensures.syn) w.none
    (ap (λ p. opening_at r (event_datagram bytes_kept p (event_of any_packet r))) (sym w.pools)
    ∙ sym c.asked_at-asked.ensures.asked ∙ ap (option_map syn_seen) c.in-Some.is)
    (l.ensures.listens (records ++ r ∷ []) (c.in_ok-hear.ensures records w.early) (c.in_ok-count.ensures records w.tally))
