-- A header, and then its options.
use Rattle.std.proofs.Common.{slice_range, Some, sym, ap, ◌∙◌}
use Rattle.std.specs.Option.{option_map}
use Rattle.wire_l4.specs.Options.{items_of}
use Rattle.wire_l4.specs.Walk.{known_in, known_seen}
use Rattle.wire_l4.proofs.Segments.{no-header, no-options, has-segment}
use Rattle.wire_l4.proofs.segment.read_tcp_unverified.Goals as goal

pub returns-then-not-holds_header : goal.returns-then-not-holds_header
returns-then-not-holds_header c = no-header c.args.bytes.now (sym c.holds_header.ensures ∙ c.if-not-holds_header.true)

pub returns-in-Err : goal.returns-in-Err
returns-in-Err c =
    no-options c.args.bytes.now
    (ap (λ header. option_map known_in (items_of (slice_range c.args.bytes.now 20 header))) (sym c.header_len.ensures) ∙ c.in-Err.ensures)

pub returns : goal.returns
returns c =
    has-segment c.args.bytes.now (known_seen c.in-Ok.options) (sym c.holds_header.ensures ∙ c.if-not-holds_header.false)
    (ap (λ header. option_map known_in (items_of (slice_range c.args.bytes.now 20 header))) (sym c.header_len.ensures) ∙ c.in-Ok.ensures)
    ∙ ap (λ s. Some s) (sym c.segment_at.ensures)
