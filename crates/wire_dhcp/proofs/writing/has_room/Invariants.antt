-- What is left has room for the rest exactly where the room has room for all.
use Rattle.std.proofs.Common.{◌≡◌, length, drop, nat_le}
use Rattle.wire_dhcp.specs.Spelling.{options_text}
use Rattle.wire_dhcp.specs.Walk.{items_seen}
use Rattle.wire_dhcp.proofs.writing.has_room.Given as goal

abbrev pub invariant-loop-option : goal.invariant-loop-option
invariant-loop-option l =
    nat_le (length (options_text (items_seen (drop l.option-index l.options)))) l.left ≡ nat_le (length (options_text (items_seen l.options))) l.room
