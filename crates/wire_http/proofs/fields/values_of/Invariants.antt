use Rattle.std.proofs.Common.{take}
use Rattle.wire_http.specs.Fields.{values}
use Rattle.wire_http.specs.Walk.{fields_at, ShowsValues}
use Rattle.wire_http.proofs.fields.values_of.Given as goal

abbrev pub invariant-loop-span : goal.invariant-loop-span
invariant-loop-span l = ShowsValues l.buf l.found (values l.name (fields_at l.buf (take l.span-index l.spans)))
