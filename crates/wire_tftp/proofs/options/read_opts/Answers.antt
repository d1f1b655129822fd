-- Each option joins what was found before.
use Rattle.wire_tftp.proofs.Joining.{walk-start, walk-item, walk-bad, walk-empty}
use Rattle.wire_tftp.proofs.options.read_opts.Goals as goal

pub loop-rest-init : goal.loop-rest-init
loop-rest-init c = walk-start c.args.octets.now

pub returns-in-None : goal.returns-in-None
returns-in-None c = walk-bad _ _ c.loop-rest.rest.now _ _ c.in-Some.ensures.some c.in-None.ensures c.loop-rest.invariant

pub loop-rest-preserved : goal.loop-rest-preserved
loop-rest-preserved c =
    walk-item _ _ _ c.loop-rest.rest.now _ _ c.in-Some.ensures.some c.in-Some-with_option.ensures c.loop-rest.invariant

pub returns : goal.returns
returns c = walk-empty _ c.loop-rest.rest.now _ c.loop-rest-test.false c.loop-rest.invariant
