use Rattle.std.proofs.Common.{ap, arith, refl}
use Rattle.efi_window.specs.Places.{Places}
use Rattle.tcp_recv.proofs.Courses.{stands-taken}
use Rattle.tcp_recv.proofs.Standing.{stands-front, stands-take}
use Rattle.tcp_recv.proofs.receiver.Recv.take.Goals as goal

pub returns-clause-stands : goal.returns-clause-stands
returns-clause-stands c =
    rw (← c.self.view_is) (λ board given s. stands-take board given _ _ _ s (omega (arith, c.take.ensures.count)) c.take.ensures.window)

pub returns-clause-joined : goal.returns-clause-joined
returns-clause-joined c = rw (← c.self.view_is) (λ board given s. stands-front board given _ s)

pub returns-clause-steps : goal.returns-clause-steps
returns-clause-steps c =
    rw (← c.self.view_is) (λ steps given s. stands-taken steps given _ _ _ c.take.result s refl
    (ap (λ (w : Places). w.cap) c.take.ensures.window) (ap (λ (w : Places). w.taken) c.take.ensures.window)
    (λ board given s. stands-take board given _ _ _ s (omega (arith, c.take.ensures.count)) c.take.ensures.window))
