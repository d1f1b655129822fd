use Rattle.std.proofs.Common.{◌≡◌, ◌+◌, ◌-◌, ◌≤◌, [], length, drop}
use Rattle.text_base.specs.Lines.{read_on}
use Rattle.text_base.proofs.lines.read_lines.Given as goal

abbrev pub invariant-loop-length : goal.invariant-loop-length
invariant-loop-length g l =
    (l.start ≤ length l.octets)
    × (read_on g.S.Said.next (record { said = l.fn.said; at = l.at; rest = [] }) l.octets
    ≡ read_on g.S.Said.next (record { said = l.said; at = l.at + l.start; rest = [] }) (drop l.start l.octets))

abbrev pub decreases-loop-length : goal.decreases-loop-length
decreases-loop-length g l = length l.octets - l.start
