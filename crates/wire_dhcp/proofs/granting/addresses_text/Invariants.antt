-- The addresses so far, joined with those left, are all of them.
use Rattle.std.proofs.Common.{◌≡◌, ◌*◌, ◌++◌, length, drop}
use Rattle.wire_dhcp.specs.Granted.{addresses_text}
use Rattle.wire_dhcp.proofs.granting.addresses_text.Given as goal

abbrev pub invariant-loop-ip : goal.invariant-loop-ip
invariant-loop-ip l =
    (l.octets.items ++ addresses_text (drop l.ip-index l.ips) ≡ addresses_text l.ips) × (length l.octets.items ≡ 4 * l.ip-index)
