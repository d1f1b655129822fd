use Rattle.std.proofs.Common.{◌≡◌, ◌++◌, map, take}
use Rattle.doc_text.specs.Reports.{visible}
use Rattle.doc_text.proofs.writing.put_visible.Given as goal

abbrev pub invariant-loop-octet : goal.invariant-loop-octet
invariant-loop-octet l = l.text.items ≡ l.initial.text.items ++ map visible (take l.octet-index l.octets)
