-- The first octet tells what stands there.
use Rattle.std.proofs.Common.{rules, refl}
use Rattle.wire_dns.proofs.Spelling.{nothing-there, zero-ends, octet-bad, pointer-cut, pointer-leads}
use Rattle.wire_dns.proofs.names.part_of.Goals as goal
use Rattle.wire_dns.proofs.names.part_of.Goals.{then-first-lt-POINTERS-via-then-first-lt-POINTERS, then-first-lt-POINTERS-via-else-first-lt-POINTERS+then-octets-lt2}

pub returns-then-is_empty : goal.returns-then-is_empty
returns-then-is_empty c = λ led. nothing-there led c.args.octets.now (search rules)

pub returns-then-first-eq0 : goal.returns-then-first-eq0
returns-then-first-eq0 c = zero-ends c.args.octets.now (search rules) c.if-first-eq0.true

pub returns-then-first-lt-POINTERS : goal.returns-then-first-lt-POINTERS
returns-then-first-lt-POINTERS c = λ led.
    elim c.then-first-lt-POINTERS.branch [
      | then-first-lt-POINTERS-via-then-first-lt-POINTERS w ↦ octet-bad led c.args.octets.now c.if-first-lt-LABELS_END.false w.if-first-lt-POINTERS.true
      | then-first-lt-POINTERS-via-else-first-lt-POINTERS+then-octets-lt2 w ↦ pointer-cut led c.args.octets.now c.if-first-lt-LABELS_END.false w.if-octets-lt2.true
    ]

pub returns : goal.returns
returns c = pointer-leads c.args.octets.now _ c.if-first-lt-POINTERS.false c.if-octets-lt2.false (rw c.u16_at.ensures refl)
