-- A segment that is no cut changes nothing, and a cut is passed on to the load, or taken in and moved to it.
use Rattle.std.proofs.Common.{◌≡◌, ◌<◌, ◌∙◌, sym, ap, subst}
use Rattle.tcp_recv.specs.Stream.{after_cut}
use Rattle.tcp_recv.specs.Receiver.{Receiver, Stands}
use Rattle.load_core.specs.Taken.{HasTaken}
use Rattle.load_core.specs.declared.load.Load.{Load}
use Rattle.wire_l4.specs.Seen.{segment_seen}
use Rattle.tap_core.specs.Connections.{after_segment}
use Rattle.tap_core.specs.Following.{Carries}
use Rattle.tap_core.proofs.Streams.{follows-other, after-Follows, reset-Follows}
use Rattle.tap_core.proofs.download.Download.on_segment.Goals as goal

pub returns-then-not-is_cut-clause-follows : goal.returns-then-not-is_cut-clause-follows
returns-then-not-is_cut-clause-follows c = λ most irs board room f.
    let s = segment_seen c.args.segment.now in (
      c.is_reset-reset.ensures ∙ reset-Follows most irs board c.args.self.now s c.accepted.result f c.accepted.ensures.count,
      follows-other most irs board c.args.self.now s (sym c.is_cut.ensures ∙ c.if-not-is_cut.true) f,
    )

pub returns-then-branch-clause-follows : goal.returns-then-branch-clause-follows
returns-then-branch-clause-follows c = λ most irs board room f.
    let s = segment_seen c.args.segment.now in
    let d = c.args.self.now in
    let cut = after-Follows most irs board d s (sym c.is_cut.ensures ∙ c.if-not-is_cut.false) f in (
      c.is_reset-reset.ensures ∙ reset-Follows most irs board d s c.accepted.result f c.accepted.ensures.count,
      record {
        carries = subst (λ b. Carries most b c.pass_on.new.recv c.pass_on.new.load) cut (c.in_ok-pass_on.ensures.passed c.if-branch.true most board f.carries);
        all_taken = c.in_ok-pass_on.ensures.all c.if-branch.true;
        irs_is = c.in_ok-pass_on.ensures.numbers.0 ∙ f.irs_is;
        own_irs = f.own_irs;
        cap_is = c.in_ok-pass_on.ensures.numbers.1 ∙ f.cap_is;
      },
    )

pub returns-clause-follows : goal.returns-clause-follows
returns-clause-follows c = λ most irs board room f.
    let s = segment_seen c.args.segment.now in
    let d = c.args.self.now in
    let given = f.carries.given in
    let same = c.in_ok-pass_on.ensures.stays c.if-branch.false in
    let cut : after_cut d.recv.irs d.recv.cap d.recv.taken board (record { seq = s.seq; bytes = s.payload; fin = c.has_fin.result }) ≡ after_segment irs board s =
    ap (λ b. after_cut d.recv.irs d.recv.cap d.recv.taken board (record { seq = s.seq; bytes = s.payload; fin = b })) c.has_fin.ensures
    ∙ after-Follows most irs board d s (sym c.is_cut.ensures ∙ c.if-not-is_cut.false) f in
    let taken_in = ap (λ (r : Receiver). after_cut r.irs r.cap r.taken board (record { seq = s.seq; bytes = s.payload; fin = c.has_fin.result })) same.0 ∙ cut in
    let carried : Carries most (after_segment irs board s) c.on_cut.new.self c.pass_on.new.load = record {
      given = given;
      stands = subst (λ b. Stands b given c.on_cut.new.self) taken_in
          (c.on_cut.ensures.stands board given (subst (Stands board given) (sym same.0) f.carries.stands));
      taken = subst (λ (l : Load). HasTaken l most given) (sym same.1) f.carries.taken;
    } in (
      c.is_reset-reset.ensures ∙ reset-Follows most irs board d s c.accepted.result f c.accepted.ensures.count,
      record {
        carries = c.in_ok-drain.ensures.carries most (after_segment irs board s) carried;
        all_taken = c.in_ok-drain.ensures.all (subst (λ n. 0 < n) (sym c.deref_mut.ensures.len) room);
        irs_is = c.in_ok-drain.ensures.numbers.0 ∙ c.on_cut.ensures.irs ∙ c.in_ok-pass_on.ensures.numbers.0 ∙ f.irs_is;
        own_irs = f.own_irs;
        cap_is = c.in_ok-drain.ensures.numbers.1 ∙ c.on_cut.ensures.cap ∙ c.in_ok-pass_on.ensures.numbers.1 ∙ f.cap_is;
      },
    )
