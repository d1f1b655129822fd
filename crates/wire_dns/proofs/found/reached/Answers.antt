-- Each step leads from a name to the next.
use Rattle.std.proofs.Common.{sym, ◌∙◌, ap, arith}
use Rattle.wire_dns.specs.Found.{of_name, alias_in}
use Rattle.wire_dns.specs.Rows.{list_of}
use Rattle.wire_dns.proofs.Walks.{stays, leads-on, arrives}
use Rattle.wire_dns.proofs.found.reached.Goals as goal

pub returns-in_default : goal.returns-in_default
returns-in_default c = stays 8 (list_of c.args.rows) c.args.name.now (rw c.in_default.is at c.alias_of.ensures)

pub loop-steps-init : goal.loop-steps-init
loop-steps-init c = leads-on 8 (list_of c.args.rows) c.args.name.now c.in-Some.first (omega arith) c.in-Some.ensures

pub returns-in-None : goal.returns-in-None
returns-in-None c =
    sym c.loop-steps.invariant ∙ stays c.loop-steps.steps (list_of c.args.rows) c.loop-steps.last (c.in-None.ensures ∙ ap (λ n. of_name alias_in n (list_of c.args.rows)) c.as_slice.ensures)

pub loop-steps-preserved : goal.loop-steps-preserved
loop-steps-preserved c =
    leads-on c.loop-steps.steps (list_of c.args.rows) c.loop-steps.last c.in-Some-alias_of.next c.loop-steps-test.true
    (c.in-Some-alias_of.ensures ∙ ap (λ n. of_name alias_in n (list_of c.args.rows)) c.as_slice.ensures)
    ∙ c.loop-steps.invariant

pub returns : goal.returns
returns c = sym c.loop-steps.invariant ∙ arrives c.loop-steps.steps (list_of c.args.rows) c.loop-steps.last c.loop-steps-test.false
