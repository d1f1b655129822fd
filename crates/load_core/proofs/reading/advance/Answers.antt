-- One piece, as far as there is room.
use Rattle.std.proofs.Common.{◌≡◌, length, take, arith, inl, inr, length-take-le}
use Rattle.load_core.proofs.Readings.{counted, none_placed}
use Rattle.load_core.proofs.reading.advance.Goals as goal

pub returns-clause-reads : goal.returns-clause-reads
returns-clause-reads c rest octets h placed bound =
    let f = c.args.reading.now.info.framing in
    let more = take c.feed-fed.result.placed c.feed-fed.new.place in
    let so_far = c.feed-fed.ensures.placed f rest octets h.read h.so_far in
    let long : length more ≡ c.feed-fed.result.placed =
    length-take-le c.feed-fed.result.placed c.feed-fed.new.place (omega (arith, c.feed-fed.ensures.placed_most, c.feed-fed.ensures.length)) in (
      more,
      record {
        read = c.feed-fed.ensures.read f rest h.read;
        state = c.feed-fed.ensures.state f rest h.read;
        so_far = so_far;
        count = counted f rest octets c.args.piece.now more c.feed-fed.result.read c.args.reading.now.count c.feed-fed.result.placed
            c.saturating_add-reading.result so_far long h.count bound (λ fits. omega (arith, c.saturating_add-reading.ensures, fits));
      },
      c.in_ok-keep.ensures.kept octets placed,
    )

pub returns-clause-stops : goal.returns-clause-stops
returns-clause-stops c rest octets h some none more =
    let f = c.args.reading.now.info.framing in
    let octets_more = take c.feed-fed.result.placed c.feed-fed.new.place in
    let long : length octets_more ≡ c.feed-fed.result.placed =
    length-take-le c.feed-fed.result.placed c.feed-fed.new.place (omega (arith, c.feed-fed.ensures.placed_most, c.feed-fed.ensures.length)) in
    elim (c.feed-fed.ensures.stops f rest h.read (omega (arith, some, none))) [
      | inl ended ↦ ended more
      | inr full ↦
          let nothing = none_placed f rest octets c.args.piece.now octets_more c.feed-fed.result.read h.so_far
          (c.feed-fed.ensures.placed f rest octets h.read h.so_far) none in
          absurd (omega (arith, full.0, long, nothing, c.requires))
    ]
