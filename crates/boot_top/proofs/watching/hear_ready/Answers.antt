-- A record that was given was heard.
use Rattle.std.proofs.Common.{◌++◌, ◌∷◌, []}
use Rattle.boot_top.proofs.watching.hear_ready.Goals as goal

pub loop-record-preserved : goal.loop-record-preserved
loop-record-preserved c most fed given read heard =
    let before = c.loop-record.invariant most fed given read heard in (
      before.0 ++ c.in-Some.record ∷ [],
      c.in-Some.ensures.some.1 fed before.0 before.1,
      c.in-Ok.ensures.heard most before.0 before.2,
    )

pub returns : goal.returns
returns c most fed given read heard =
    let before = c.loop-record.invariant most fed given read heard in
    record {
      given = before.0;
      read = rw (← c.in_default.ensures.none.1) at before.1;
      all = rw c.in_default.ensures.none.1 c.in_default.ensures.none.0;
      heard = before.2;
    }
