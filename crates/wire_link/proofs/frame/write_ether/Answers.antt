-- The header, the payload and the zeros are the text, which is read again.
use Rattle.std.proofs.Common.{Ok, refl}
use Rattle.wire_link.specs.Ether.{IsFrame, frame_of, frame_text, padded}
use Rattle.wire_link.specs.Seen.{frame_seen}
use Rattle.wire_link.proofs.Again.{frame-again}
use Rattle.wire_link.proofs.Padding.{frame-written, room-short}
use Rattle.efi_base.proofs.Written.{front-read}
use Rattle.wire_link.proofs.frame.write_ether.Goals as goal

pub returns-then-room-lt-LEAST-clause-written : goal.returns-then-room-lt-LEAST-clause-written
returns-then-room-lt-LEAST-clause-written c =
    let h = c.header_of-header.ensures in
    let spelled : IsFrame (frame_seen c.args.v.now) = record { dest = h.dest; src = h.src; proto = h.proto } in
    (room-short (frame_seen c.args.v.now) c.args.room.now spelled c.if-room-lt-LEAST.true, refl)

pub returns-in-Ok-clause-written : goal.returns-in-Ok-clause-written
returns-in-Ok-clause-written c =
    let h = c.header_of-header.ensures in
    let spelled : IsFrame (frame_seen c.args.v.now) = record { dest = h.dest; src = h.src; proto = h.proto } in
    frame-written (frame_seen c.args.v.now) _ _ _ _ _ _ spelled h.text c.if-room-lt-LEAST.false c.in-Ok.ensures c.pad.ensures.len c.pad.ensures.filled

pub returns-in-Ok-clause-again : goal.returns-in-Ok-clause-again
returns-in-Ok-clause-again c =
    let h = c.header_of-header.ensures in
    let spelled : IsFrame (frame_seen c.args.v.now) = record { dest = h.dest; src = h.src; proto = h.proto } in
    let padded_too : IsFrame (padded (frame_seen c.args.v.now)) = record { dest = h.dest; src = h.src; proto = h.proto } in
    let written = frame-written (frame_seen c.args.v.now) _ _ _ _ _ _ spelled h.text c.if-room-lt-LEAST.false c.in-Ok.ensures c.pad.ensures.len c.pad.ensures.filled in
    front-read frame_of (frame_text (padded (frame_seen c.args.v.now))) c.args.room.now (Ok c.pad.result) c.pad.new.room _ written (frame-again (padded (frame_seen c.args.v.now)) padded_too)
