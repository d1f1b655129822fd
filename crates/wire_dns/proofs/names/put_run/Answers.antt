-- Each label is put behind those before it.
use Rattle.std.proofs.Common.{refl, rules}
use Rattle.wire_dns.proofs.Runs.{walk-label}
use Rattle.wire_dns.proofs.names.put_run.Goals as goal

pub loop-label-preserved : goal.loop-label-preserved
loop-label-preserved c =
    walk-label _ _ _ _ _ c.loop-label.invariant c.in-Some-Label.label.now _ _ (rw c.in-Some-Label.field-0-is at c.in-Some-Label.ensures)
    (search (rules, c.put_label.ensures.put)) refl
