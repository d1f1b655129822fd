-- A record that shows no row is passed.
use Rattle.std.proofs.Common.{sym, ◌∙◌, arith}
use Rattle.wire_dns.proofs.Walks.{rows-none, rows-step, rows-end}
use Rattle.wire_dns.proofs.entry.next_row.Goals as goal

pub returns-in_default-clause-none : goal.returns-in_default-clause-none
returns-in_default-clause-none c =
    sym c.loop-left.invariant.same ∙ rows-none c.args.rows.octets.now c.loop-left.place _ (rw c.in_default.is at c.entry_at.ensures.at)

pub returns-in-Some-row_of-clause-some : goal.returns-in-Some-row_of-clause-some
returns-in-Some-row_of-clause-some c =
    sym c.loop-left.invariant.same
    ∙ rows-step c.args.rows.octets.now c.loop-left.place _ c.in-Some.entry _ c.loop-left-test.true c.in-Some.ensures.at c.in-Some-row_of.ensures

pub loop-left-preserved : goal.loop-left-preserved
loop-left-preserved c = record {
  same =
      sym (rows-step c.args.rows.octets.now c.loop-left.place _ c.in-Some.entry _ c.loop-left-test.true c.in-Some.ensures.at (rw c.in_default-row_of.is at c.row_of.ensures))
      ∙ c.loop-left.invariant.same;
  below = omega arith;
}

pub returns-clause-none : goal.returns-clause-none
returns-clause-none c = sym c.loop-left.invariant.same ∙ rows-end c.args.rows.octets.now c.loop-left.place _ c.loop-left-test.false
