use Rattle.std.proofs.Common.{◌≡◌, ◌++◌, take}
use Rattle.text_base.specs.Addresses.{later_octets}
use Rattle.text_base.proofs.addresses.put_later.Given as goal

abbrev pub invariant-loop-octet : goal.invariant-loop-octet
invariant-loop-octet l = l.text.items ≡ l.initial.text.items ++ later_octets (take l.octet-index l.octets)
