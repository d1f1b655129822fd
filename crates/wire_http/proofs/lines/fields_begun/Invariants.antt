use Rattle.std.proofs.Common.{◌≡◌, ◌+◌, ◌≤◌, drop}
use Rattle.wire_http.specs.Begun.{begun_from, fields_begun}
use Rattle.wire_http.proofs.lines.fields_begun.Given as goal

abbrev pub invariant-loop-byte : goal.invariant-loop-byte
invariant-loop-byte l =
    (l.count + begun_from l.place (drop l.byte-index l.bytes) ≡ fields_begun l.bytes) × (l.count ≤ l.byte-index)
