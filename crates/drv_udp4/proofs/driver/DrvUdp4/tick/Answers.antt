use Rattle.std.proofs.Common.{◌≡◌, ℕ, ◌<◌, Option, Some, option_map, IfSome, subst, sym, ap, ◌∙◌}
use Rattle.efi_base.specs.declared.plain.Tick.{Tick}
use Rattle.efi_timer.specs.Ticking.{steps_once, rests}
use Rattle.drv_udp4.specs.Ticks.{acted, at, moment_of, next_of}
use Rattle.drv_udp4.specs.Timed.{IsAny, udp_is_timed}
use Rattle.drv_udp4.proofs.driver.DrvUdp4.tick.Goals.{in-Some+then-m-now, in_default}
use Rattle.drv_udp4.proofs.driver.DrvUdp4.tick.Goals as goal

pub loop-m-smaller : goal.loop-m-smaller
loop-m-smaller c =
    let n : next_of c.loop-m.self ≡ Some c.in-Some.m.0 = sym c.next.ensures ∙ ap (λ o. option_map (λ (t : Tick). t.0) o) c.in-Some.is in
    (steps_once moment_of acted at next_of IsAny udp_is_timed c.loop-m.self c.act.new.self c.in-Some.m.0 c.args.now.0 tt n c.if-m-now.false c.act.ensures.after).2

pub loop-m-preserved : goal.loop-m-preserved
loop-m-preserved c =
    let n : next_of c.loop-m.self ≡ Some c.in-Some.m.0 = sym c.next.ensures ∙ ap (λ o. option_map (λ (t : Tick). t.0) o) c.in-Some.is in
    let s = steps_once moment_of acted at next_of IsAny udp_is_timed c.loop-m.self c.act.new.self c.in-Some.m.0 c.args.now.0 tt n c.if-m-now.false c.act.ensures.after in
    record {
      before = s.0;
      whole = s.1 ∙ c.loop-m.invariant.whole;
      keeps = λ o. c.act.ensures.keeps o ∙ c.loop-m.invariant.keeps o;
    }

pub returns-clause-after : goal.returns-clause-after
returns-clause-after c =
    let IsFar : Option ℕ → Type 0 = λ o. IfSome o (λ t. c.args.now.0 < t) in
    let far : IsFar (next_of c.loop-m.self) =
    elim c.match-next.branch [
      | in-Some+then-m-now w ↦ subst IsFar (sym (ap (λ o. option_map (λ (t : Tick). t.0) o) w.in-Some.is) ∙ c.next.ensures) w.if-m-now.true
      | in_default w ↦ subst IsFar (sym (ap (λ o. option_map (λ (t : Tick). t.0) o) w.in_default.is) ∙ c.next.ensures) tt
    ] in
    ap (λ s. at c.args.now.0 s) c.self.view_is
    ∙ sym (rests moment_of acted at next_of IsAny udp_is_timed c.loop-m.self c.args.now.0 tt c.loop-m.invariant.before far)
    ∙ c.loop-m.invariant.whole
