use Rattle.std.proofs.Common.{◌+◌, nat_lt, refl, length, ◌*◌}
use Rattle.ip_cut.specs.Cutting.{cuts_of}
use Rattle.ip_cut.specs.Sent.{sending_seen}
use Rattle.ip_cut.proofs.Numbered.{packet_is, last_or_not}
use Rattle.ip_cut.proofs.cut.fragment_of.Goals as goal

pub returns-clause-packet : goal.returns-clause-packet
returns-clause-packet c =
    packet_is
    (sending_seen c.args.d.now)
    c.args.i
    (nat_lt (c.args.i + 1) c.fragment_count.result)
    (c.args.i * 1480)
    c.part_at.result.now
    c.requires.number
    (last_or_not c.args.i (cuts_of (length c.args.d.now.payload.now)) c.fragment_count.result c.fragment_count.ensures)
    refl
    c.part_at.ensures.part
