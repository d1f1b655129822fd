-- Each option joins what was found before.
use Rattle.wire_l4.proofs.Walking.{walk-start, walk-empty, walk-end, walk-item}
use Rattle.wire_l4.proofs.options.read_options.Goals as goal

pub loop-rest-init : goal.loop-rest-init
loop-rest-init c = walk-start c.args.bytes.now

pub returns-then-kind-eq-END : goal.returns-then-kind-eq-END
returns-then-kind-eq-END c = walk-end _ c.loop-rest.rest.now _ c.loop-rest-test.true c.if-kind-eq-END.true c.loop-rest.invariant

pub loop-rest-preserved : goal.loop-rest-preserved
loop-rest-preserved c =
    walk-item _ _ _ _ c.loop-rest.rest.now _ _ c.in-Some.ensures.some c.read_value.ensures c.with_first-found.ensures c.loop-rest.invariant

pub returns : goal.returns
returns c = walk-empty _ c.loop-rest.rest.now _ c.loop-rest-test.false c.loop-rest.invariant
