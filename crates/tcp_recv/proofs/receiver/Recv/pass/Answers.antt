-- Octets that stand next are passed on as if they were put and taken.
use Rattle.std.proofs.Common.{length, refl, sym, ap, ◌∙◌}
use Rattle.tcp_recv.specs.Receiver.{Receiver, is_next}
use Rattle.efi_window.specs.Places.{Places}
use Rattle.tcp_recv.proofs.Courses.{stands-passed}
use Rattle.tcp_recv.proofs.Standing.{stands-next}
use Rattle.tcp_recv.proofs.receiver.Recv.pass.Goals as goal

pub returns-clause-stands : goal.returns-clause-stands
returns-clause-stands c =
    let bytes = c.args.bytes.now in
    let next = ap (λ (r : Receiver). is_next r c.args.seq (length bytes)) c.self.view_is ∙ sym c.is_next.ensures ∙ c.if-not-is_next.false in
    rw (← c.self.view_is) (λ yes board given s. stands-next board given _ c.args.seq bytes _ s next c.pass.ensures)

pub returns-clause-steps : goal.returns-clause-steps
returns-clause-steps c =
    let bytes = c.args.bytes.now in
    let next = ap (λ (r : Receiver). is_next r c.args.seq (length bytes)) c.self.view_is ∙ sym c.is_next.ensures ∙ c.if-not-is_next.false in
    rw (← c.self.view_is) (λ yes steps given s. stands-passed steps given bytes _ _ _ (length bytes) s refl
    (ap (λ (w : Places). w.cap) c.pass.ensures) (ap (λ (w : Places). w.taken) c.pass.ensures)
    (λ board given s. stands-next board given _ c.args.seq bytes _ s next c.pass.ensures))
