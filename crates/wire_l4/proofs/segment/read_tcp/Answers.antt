-- The checksum is tested between the header and the options.
use Rattle.std.proofs.Common.{sym, ◌∙◌}
use Rattle.wire_l4.proofs.Segments.{no-header-between, wrong-sum, right-sum}
use Rattle.wire_l4.proofs.segment.read_tcp.Goals as goal

pub returns-then-not-holds_header : goal.returns-then-not-holds_header
returns-then-not-holds_header c =
    no-header-between c.args.src.0 c.args.dest.0 c.args.bytes.now (sym c.holds_header.ensures ∙ c.if-not-holds_header.true)

pub returns-then-not-has_right_checksum : goal.returns-then-not-has_right_checksum
returns-then-not-has_right_checksum c =
    wrong-sum c.args.src.0 c.args.dest.0 c.args.bytes.now (sym c.has_right_checksum.ensures ∙ c.if-not-has_right_checksum.true)

pub returns : goal.returns
returns c =
    let same = right-sum c.args.src.0 c.args.dest.0 c.args.bytes.now (sym c.has_right_checksum.ensures ∙ c.if-not-has_right_checksum.false) in
    rw same c.read_tcp_unverified.ensures
