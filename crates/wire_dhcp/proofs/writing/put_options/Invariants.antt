-- The options so far are written.
use Rattle.std.proofs.Common.{◌≡◌, ◌+◌, ◌++◌, List, ℕ, length, take, drop}
use Rattle.wire_dhcp.specs.Filling.{Stands}
use Rattle.wire_dhcp.specs.Spelling.{options_text}
use Rattle.wire_dhcp.specs.Walk.{items_seen}
use Rattle.wire_dhcp.proofs.writing.put_options.Given as goal

abbrev pub invariant-loop-option : goal.invariant-loop-option
invariant-loop-option l =
    (l.end + length (options_text (items_seen (drop l.option-index l.options))) ≡ l.fn.place + length (options_text (items_seen l.options)))
    × ((text before : List ℕ) → Stands text before l.fn.place l.fn.room
    → Stands (text ++ options_text (items_seen (take l.option-index l.options))) before l.end l.room)
