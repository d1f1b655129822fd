use Rattle.std.proofs.Common.{◌≡◌, take}
use Rattle.wire_http.specs.Fields.{values, framing_by_lengths}
use Rattle.wire_http.specs.Walk.{fields_at}
use Rattle.wire_http.proofs.fields.stated_length.Given as goal

abbrev pub invariant-loop-span : goal.invariant-loop-span
invariant-loop-span l = l.stated ≡ framing_by_lengths (values l.name (fields_at l.buf (take l.span-index l.spans)))
