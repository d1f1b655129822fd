-- The frame behind those that were given is in the room's front.
use Rattle.std.proofs.Common.{arith, refl, []}
use Rattle.efi_link.specs.Tapes.{Tape}
use Rattle.efi_link.proofs.Nexts.{gives-next}
use Rattle.efi_link.proofs.memory.SureLinkLink.recv.Goals as goal

pub returns-clause-receives : goal.returns-clause-receives
returns-clause-receives c =
    let tape : Tape = record { tries = c.self.inside.tries.items; frames = c.self.inside.frames.items; given = c.self.inside.given; failing = [] } in
    rw (← c.self.view_is, c.copy_frame-count.ensures.copied) (
      omega (arith, c.copy_frame-count.ensures.count, c.copy_frame-count.ensures.len, c.frame_at.ensures.good.most, c.requires),
      gives-next tape _ _ _ c.frame_at.ensures.good.some c.frame_at.ensures.next refl c.frame_at.ensures.before,
    )
