use Rattle.std.proofs.Common.{◌≡◌, ◌++◌, take}
use Rattle.text_base.specs.Hex.{hex_text}
use Rattle.text_base.proofs.hex.put_hex.Given as goal

abbrev pub invariant-loop-octet : goal.invariant-loop-octet
invariant-loop-octet l = l.text.items ≡ l.initial.text.items ++ hex_text (take l.octet-index l.octets)
