use Rattle.std.proofs.Common.{ap, arith, refl}
use Rattle.std.proofs.lemmas.List.{take_rest}
use Rattle.efi_window.specs.Places.{Places}
use Rattle.tcp_recv.proofs.Courses.{stands-heard}
use Rattle.tcp_recv.proofs.Standing.{stands-put, stands-behind}
use Rattle.tcp_recv.proofs.receiver.Recv.on_cut.Goals as goal

pub returns-then-spot-bytes-clause-stands : goal.returns-then-spot-bytes-clause-stands
returns-then-spot-bytes-clause-stands c =
    rw (← c.self.view_is)
    (λ board given s. stands-behind board given _ _ _ _ s (omega (arith, c.taken.ensures, c.ready.ensures.count)) c.spot_of-spot.ensures.skipped c.if-spot-bytes.true)

pub returns-clause-stands : goal.returns-clause-stands
returns-clause-stands c =
    rw (← c.self.view_is)
    (λ board given s. stands-put board given _ _ _ _ _ _ _ _ _ s (omega (arith, c.taken.ensures, c.ready.ensures.count)) c.spot_of-spot.ensures.place
    c.spot_of-spot.ensures.skipped c.if-spot-bytes.false (take_rest c.args.bytes.now c.spot_of-spot.result.skipped) c.before_end.ensures c.put.ensures c.end_with-self-inside.ensures)

pub returns-then-spot-bytes-clause-steps : goal.returns-then-spot-bytes-clause-steps
returns-then-spot-bytes-clause-steps c =
    rw (← c.self.view_is)
    (λ steps given s. stands-heard steps given _ _ _ s refl refl refl
    (λ board given s. stands-behind board given _ _ _ _ s (omega (arith, c.taken.ensures, c.ready.ensures.count)) c.spot_of-spot.ensures.skipped c.if-spot-bytes.true))

pub returns-clause-steps : goal.returns-clause-steps
returns-clause-steps c =
    rw (← c.self.view_is)
    (λ steps given s. stands-heard steps given _ _ _ s refl (ap (λ (w : Places). w.cap) c.put.ensures) (ap (λ (w : Places). w.taken) c.put.ensures)
    (λ board given s. stands-put board given _ _ _ _ _ _ _ _ _ s (omega (arith, c.taken.ensures, c.ready.ensures.count)) c.spot_of-spot.ensures.place
    c.spot_of-spot.ensures.skipped c.if-spot-bytes.false (take_rest c.args.bytes.now c.spot_of-spot.result.skipped) c.before_end.ensures c.put.ensures c.end_with-self-inside.ensures))
