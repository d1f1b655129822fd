-- A fragment is one more that is kept, and another record is a tick that passes.
use Rattle.std.proofs.Common.{◌∙◌, [], fold, inr, ap, sym, subst, arith}
use Rattle.ip_core.specs.Bytes.{bytes_kept}
use Rattle.ip_core.specs.Datagrams.{after_event}
use Rattle.ip_core.specs.Pools.{open_at}
use Rattle.tap_core.specs.Early.{after_kept, pools_left, AreRecent}
use Rattle.tap_core.specs.Frames.{heard_packet, holds_fragment}
use Rattle.tap_core.specs.Hearing.{event_heard, pools_from}
use Rattle.tap_core.proofs.Kept.{event-same, open-open, record-passes}
use Rattle.tap_core.proofs.Counts.{tick-next}
use Rattle.tap_core.proofs.HeardLaws.{pools-next}
use Rattle.tap_core.proofs.early.Fragments.hear.Goals as goal

pub returns-then-not-holds_fragment : goal.returns-then-not-holds_fragment
returns-then-not-holds_fragment c = λ records h.
    let r = c.args.«record» in
    let faded = c.fade.new.self in
    let fragments = c.fade.ensures.fragments h.fragments in
    record {
      pools = λ o.
          ap (λ n. open_at n (fold (after_kept o) [] faded.kept.items)) c.later-self.ensures
          ∙ sym (open-open r.tick.0 faded.passed.0 (fold (after_kept o) [] faded.kept.items))
          ∙ c.fade.ensures.left h.fragments o
          ∙ ap (open_at r.tick.0) (h.pools o)
          ∙ sym (record-passes o (pools_from o [] records) r (ap holds_fragment (sym c.as_slice.ensures) ∙ sym c.holds_fragment.ensures ∙ c.if-not-holds_fragment.true))
          ∙ sym (pools-next (heard_packet o.station) [] records r);
      fragments = record { holding = fragments.holding; latest_is = fragments.latest_is };
      recent = subst (λ n. AreRecent n faded) (sym (tick-next records r)) c.fade.ensures.recent;
    }

pub returns : goal.returns
returns c = λ records h.
    let r = c.args.«record» in
    record {
      pools = λ o.
          c.in_ok-keep.ensures.left o
          ∙ event-same r.tick.0 (pools_left o c.fade.new.self) (pools_left o c.args.self.now) (heard_packet o.station r.frame) (c.fade.ensures.left h.fragments o)
          ∙ ap (λ p. after_event bytes_kept p (event_heard o r)) (h.pools o)
          ∙ sym (pools-next (heard_packet o.station) [] records r);
      fragments = c.in_ok-keep.ensures.fragments (c.fade.ensures.fragments h.fragments)
          (ap holds_fragment (sym c.as_slice.ensures) ∙ sym c.holds_fragment.ensures ∙ c.if-not-holds_fragment.false);
      recent = inr (omega (arith, tick-next records r, c.in_ok-keep.ensures.latest));
    }
