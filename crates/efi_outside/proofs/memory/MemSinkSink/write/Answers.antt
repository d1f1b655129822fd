-- A write fails exactly where its number is among those that fail.
use Rattle.std.proofs.Common.{refl, arith}
use Rattle.efi_outside.proofs.memory.MemSinkSink.write.Goals as goal

pub returns-then-fails_next-clause-cause : goal.returns-then-fails_next-clause-cause
returns-then-fails_next-clause-cause c = rw (← c.self.view_is) (record {
  later = omega arith;
  failed = λ _. omega arith;
  memory = λ e. absurd (cc);
  kept = tt;
})

pub returns-then-fails_next-clause-fails : goal.returns-then-fails_next-clause-fails
returns-then-fails_next-clause-fails c = rw (← c.self.view_is) (λ _. c.if-fails_next.ensures.0 refl, λ _. refl)
