-- The text is longer than the room, or stands in front of it.
use Rattle.std.proofs.Common.{◌≤◌, ◌++◌, length, refl, sym, ap, ◌∙◌, arith}
use Rattle.wire_dhcp.specs.Spelling.{dhcp_text, options_text, front_text, names_text}
use Rattle.wire_dhcp.specs.Walk.{items_seen}
use Rattle.wire_dhcp.proofs.Cursor.{text-size, file-short, all-writable, stands-as, stands-whole, no-room, some-room}
use Rattle.wire_dhcp.proofs.writing.write_dhcp.Goals as goal

pub returns-then-room-le-HEAD : goal.returns-then-room-le-HEAD
returns-then-room-le-HEAD c =
    let items = items_seen c.args.options.now in
    let size = text-size c.args.f.now items c.front_of-front.ensures.size (file-short c.args.f.now items c.requires) in
    (omega (arith, size), refl)

pub returns-then-not-has_room : goal.returns-then-not-has_room
returns-then-not-has_room c =
    let items = items_seen c.args.options.now in
    let size = text-size c.args.f.now items c.front_of-front.ensures.size (file-short c.args.f.now items c.requires) in
    let long = no-room (length (options_text items)) (length c.args.room.now) c.if-room-le-HEAD.false (sym c.has_room.ensures ∙ c.if-not-has_room.true) in
    (omega (arith, size, long), refl)

pub put_head-head-requires-clause-file : goal.put_head-head-requires-clause-file
put_head-head-requires-clause-file c =
    let few = file-short c.args.f.now (items_seen c.args.options.now) c.requires in
    omega (arith, ap length c.as_slice.ensures, few)

pub put_options-end-requires : goal.put_options-end-requires
put_options-end-requires c =
    let items = items_seen c.args.options.now in
    let fits = some-room (length (options_text items)) (length c.args.room.now) c.if-room-le-HEAD.false (sym c.has_room.ensures ∙ c.if-not-has_room.false) in
    record { room = omega (arith, fits, c.put_head-head.ensures.end, c.put_head-head.auto.room); good = all-writable c.args.f.now items c.requires }

pub put_next-requires : goal.put_next-requires
put_next-requires c =
    let items = items_seen c.args.options.now in
    let fits = some-room (length (options_text items)) (length c.args.room.now) c.if-room-le-HEAD.false (sym c.has_room.ensures ∙ c.if-not-has_room.false) in
    omega (arith, fits, c.put_head-head.ensures.end, c.put_options-end.ensures.end, c.put_head-head.auto.room, c.put_options-end.auto.room)

pub returns : goal.returns
unfolding dhcp_text
returns c =
    let items = items_seen c.args.options.now in
    let size = text-size c.args.f.now items c.front_of-front.ensures.size (file-short c.args.f.now items c.requires) in
    let fits = some-room (length (options_text items)) (length c.args.room.now) c.if-room-le-HEAD.false (sym c.has_room.ensures ∙ c.if-not-has_room.false) in
    let short : length (dhcp_text c.args.f.now items) ≤ length c.args.room.now = omega (arith, size, fits) in
    let head = stands-as _ (front_text c.args.f.now ++ names_text c.args.f.now.file) c.args.room.now c.put_head-head.new.room c.put_head-head.result
    (ap (λ x. x ++ names_text c.as_slice.result.now) c.front_of-front.ensures.text ∙ ap (λ x. front_text c.args.f.now ++ names_text x) c.as_slice.ensures)
    c.put_head-head.ensures.text in
    stands-whole _ c.args.room.now c.put_next.new.room c.put_next.result
    (c.put_next.ensures.text _ c.args.room.now (c.put_options-end.ensures.text _ c.args.room.now head)) short
