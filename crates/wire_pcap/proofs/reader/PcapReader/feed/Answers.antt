use Rattle.std.proofs.Common.{◌++◌, Some, refl}
use Rattle.wire_pcap.proofs.Standing.{has_read_on, capture_front, few_left}
use Rattle.wire_pcap.proofs.Stopping.{cause_of, has_stopped, read_longer, stops_longer, same_longer}
use Rattle.wire_pcap.proofs.Staying.{stays_stopped}
use Rattle.wire_pcap.proofs.reader.PcapReader.feed.Goals as goal

pub invariant_of-self : goal.invariant_of-self
invariant_of-self c = record {
  few = few_left (c.self.inside.octets.items ++ c.args.piece.now) c.self.inside.stage c.in-Ok.stage c.read_piece.new.octets.items
      c.self.inside.ready.items c.read_piece.new.ready.items c.in-Ok.ensures;
}

pub returns-in-Ok-clause-ok : goal.returns-in-Ok-clause-ok
returns-in-Ok-clause-ok c = rw (← c.self.view_is) (
  c.in_default.is,
  c.in_default.is,
  λ fed given h.
      has_read_on fed given _ c.args.piece.now c.in-Ok.stage c.read_piece.new.octets.items c.read_piece.new.ready.items c.self.inside.fault
      c.in_default.is h c.in-Ok.ensures,
)

pub returns-in-Ok-clause-front : goal.returns-in-Ok-clause-front
returns-in-Ok-clause-front c = rw (← c.self.view_is) (λ fed given h.
    capture_front (fed ++ c.args.piece.now) given _
    (has_read_on fed given _ c.args.piece.now c.in-Ok.stage c.read_piece.new.octets.items c.read_piece.new.ready.items c.self.inside.fault
    c.in_default.is h c.in-Ok.ensures))

pub returns-in-Ok-clause-few : goal.returns-in-Ok-clause-few
returns-in-Ok-clause-few c = (invariant_of-self c).few

pub returns-in-Some-clause-stays : goal.returns-in-Some-clause-stays
returns-in-Some-clause-stays c = λ fed given e h. stays_stopped fed c.args.piece.now given c.args.self.now e h

pub returns-in-Err-clause-stops : goal.returns-in-Err-clause-stops
returns-in-Err-clause-stops c = rw (← c.self.view_is) (λ fed given h.
    has_stopped fed given _ c.args.piece.now c.in-Err.fault c.read_piece.new.ready.items c.self.inside.stage c.clear.new.self.items
    (Some c.in-Err.fault) h c.in-Err.ensures c.clear.ensures.items refl)

pub returns-in-Err-clause-cause : goal.returns-in-Err-clause-cause
returns-in-Err-clause-cause c = rw (← c.self.view_is) (λ fed given h.
    cause_of fed given _ c.args.piece.now c.in-Err.fault c.read_piece.new.ready.items h c.in-Err.ensures)

pub returns-in-Some-clause-kept : goal.returns-in-Some-clause-kept
returns-in-Some-clause-kept c = same_longer _ _ refl

pub returns-in-Ok-clause-kept : goal.returns-in-Ok-clause-kept
returns-in-Ok-clause-kept c = rw (← c.self.view_is) (
    read_longer (c.self.inside.octets.items ++ c.args.piece.now) c.self.inside.stage c.in-Ok.stage c.read_piece.new.octets.items
    c.self.inside.ready.items c.read_piece.new.ready.items c.in-Ok.ensures)

pub returns-in-Err-clause-kept : goal.returns-in-Err-clause-kept
returns-in-Err-clause-kept c = rw (← c.self.view_is) (
    stops_longer (c.self.inside.octets.items ++ c.args.piece.now) c.self.inside.stage c.in-Err.fault
    c.self.inside.ready.items c.read_piece.new.ready.items c.in-Err.ensures)
