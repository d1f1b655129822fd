-- Messages that wait for a next hop's Ethernet address, and the tokens of drivers above that wait for them.
use Rattle.std.specs.Prelude.{ℕ, Bool, false, ◌==◌, ◌&&◌, not, nat_le, List, count_by, Option, Some, None}
use Rattle.efi_base.specs.declared.plain.Ip4.{Ip4}
use Rattle.efi_base.specs.declared.tokens.Ticket.{Ticket}
use Rattle.efi_base.specs.declared.tokens.Proto.{Proto}
use Rattle.efi_base.specs.declared.tokens.Proto.TheVariants.{Mnp, Arp, Ip4 as Ip, Udp4, Tcp4, Dhcp4, Dns4, Mtftp4, Http, Boot}
use Rattle.ip_hops.specs.declared.round.Round.{Round}
use Rattle.ip_hops.specs.declared.wait.Wait.{Wait}
use Rattle.ip_hops.specs.Rounds.{is_ending}

-- a number for each protocol
abbrev pub number_of : Proto → ℕ
number_of Mnp = 1
number_of Arp = 2
number_of Ip = 3
number_of Udp4 = 4
number_of Tcp4 = 5
number_of Dhcp4 = 6
number_of Dns4 = 7
number_of Mtftp4 = 8
number_of Http = 9
number_of Boot = 10

-- the owner is this token
abbrev pub is_token : Proto × Ticket → Option (Proto × Ticket) → Bool
is_token token None = false
is_token token (Some owner) = number_of owner.0 == number_of token.0 && owner.1.0 == token.1.0

module _ {M : Type 0} where
  -- the message waits for this next hop
  abbrev pub waits_for : Ip4 → Wait M → Bool
  waits_for hop w = w.hop.0 == hop.0

  -- it is this token's
  abbrev pub is_owned : Proto × Ticket → Wait M → Bool
  is_owned token w = is_token token w.owner

  abbrev pub is_not_owned : Proto × Ticket → Wait M → Bool
  is_not_owned token w = not (is_owned token w)

  -- as many messages wait for this next hop as may
  abbrev pub is_full : Ip4 → List (Wait M) → Bool
  is_full hop ws = nat_le 16 (count_by (waits_for hop) ws)

  -- a round of its next hop ends at this moment
  abbrev pub is_over : ℕ → List Round → Wait M → Bool
  is_over m rs w = is_ending m rs w.hop

  abbrev pub stays : ℕ → List Round → Wait M → Bool
  stays m rs w = not (is_over m rs w)
