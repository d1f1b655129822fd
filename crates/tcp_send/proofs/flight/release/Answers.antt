use Rattle.std.proofs.Common.{ap, sym, ◌∙◌, arith}
use Rattle.tcp_send.specs.Flight.{Flight}
use Rattle.tcp_send.proofs.Cuts.{stays-none, stays-some}
use Rattle.tcp_send.proofs.flight.release.Goals as goal

pub returns-then-end-fin_number-clause-flight : goal.returns-then-end-fin_number-clause-flight
returns-then-end-fin_number-clause-flight c =
    ap (λ (f : Flight). f.segments) (sym (stays-some c.args.una c.loop-segment.base c.loop-segment.flight.items c.in-Some.segment (cc) (omega (arith, c.fin_number.ensures.number)))
    ∙ c.loop-segment.invariant.left)

pub returns-then-end-fin_number-clause-base : goal.returns-then-end-fin_number-clause-base
returns-then-end-fin_number-clause-base c =
    ap (λ (f : Flight). f.base) (sym (stays-some c.args.una c.loop-segment.base c.loop-segment.flight.items c.in-Some.segment (cc) (omega (arith, c.fin_number.ensures.number)))
    ∙ c.loop-segment.invariant.left)

pub returns-clause-flight : goal.returns-clause-flight
returns-clause-flight c =
    ap (λ (f : Flight). f.segments) (sym (stays-none c.args.una c.loop-segment.base c.loop-segment.flight.items (cc)) ∙ c.loop-segment.invariant.left)

pub returns-clause-base : goal.returns-clause-base
returns-clause-base c =
    ap (λ (f : Flight). f.base) (sym (stays-none c.args.una c.loop-segment.base c.loop-segment.flight.items (cc)) ∙ c.loop-segment.invariant.left)
