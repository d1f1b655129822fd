use Rattle.std.proofs.Common.{◌≡◌, ◌-◌, ◌≤◌, ◌++◌, true, length, drop}
use Rattle.text_base.specs.Hex.{hex_octets, is_hex_text}
use Rattle.text_base.proofs.hex.hex_octets.Given as goal

abbrev pub invariant-loop-place : goal.invariant-loop-place
invariant-loop-place l =
    (l.place ≤ length l.text) × (is_hex_text (drop l.place l.text) ≡ true)
    × (l.octets.items ++ hex_octets (drop l.place l.text) ≡ hex_octets l.text)

abbrev pub decreases-loop-place : goal.decreases-loop-place
decreases-loop-place l = length l.text - l.place
