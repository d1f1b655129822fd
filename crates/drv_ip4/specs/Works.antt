-- The kinds of works, and what is wrong with a configuration or a work by itself.
use Rattle.std.specs.Prelude.{ℕ, Bool, true, false, not, ◌&&◌, ◌||◌, ◌==◌, nat_lt, length, Option, Some, None}
use Rattle.efi_base.specs.Addresses.{is_broadcast, is_mask, is_unicast}
use Rattle.efi_base.specs.Refusals.{first_of, refuse_if}
use Rattle.efi_base.specs.declared.plain.Addr.{Addr}
use Rattle.efi_base.specs.declared.refuse.Refuse.{Refuse}
use Rattle.efi_base.specs.declared.refuse.Refuse.TheVariants.{BadConfig}
use Rattle.efi_base.specs.declared.refuse.Field.TheVariants.{Address, Length, Mask}
use Rattle.drv_ip4.specs.declared.work.IpCfg.{IpCfg}
use Rattle.drv_ip4.specs.declared.work.IpTx.{IpTx}
use Rattle.drv_ip4.specs.declared.work.IpWork.{IpWork}
use Rattle.drv_ip4.specs.declared.work.IpWork.TheVariants.{Transmit, Receive}

-- transmits are of kind 1, receives of kind 2
abbrev pub kind_of : IpWork → ℕ
kind_of (Transmit tx) = 1
kind_of (Receive got) = 2

-- a total length is at most 65,535 octets, 20 of them the header's (RFC 791, section 3.1), and what may not be cut goes in
-- 1,500 (RFC 894)
abbrev pub is_long : IpTx → Bool
is_long tx = nat_lt 65515 (length tx.payload) || (tx.df && nat_lt 1480 (length tx.payload))

-- neither one station's address nor the limited broadcast
abbrev pub is_bad_dest : ℕ → Bool
is_bad_dest dest = not (is_unicast dest || is_broadcast dest)

abbrev pub tx_fault : IpTx → Option Refuse
tx_fault tx = first_of (refuse_if (is_long tx) (BadConfig Length)) (refuse_if (is_bad_dest tx.dest.0) (BadConfig Address))

-- one station's address; the stack's own children may have 0.0.0.0, as before a lease
abbrev pub is_bad_ip : ℕ → Bool → Bool
is_bad_ip ip own = not (is_unicast ip) && not (own && ip == 0)

abbrev pub at_fault : Option Addr → Bool → Option Refuse
at_fault None own = None
at_fault (Some at) own = first_of (refuse_if (is_bad_ip at.ip.0 own) (BadConfig Address)) (refuse_if (not (is_mask at.mask)) (BadConfig Mask))

abbrev pub cfg_fault : IpCfg → Bool → Option Refuse
cfg_fault cfg own = at_fault cfg.at own

-- there is a work, and it is a datagram to send
abbrev pub is_transmit : Option IpWork → Bool
is_transmit (Some (Transmit tx)) = true
is_transmit (Some (Receive got)) = false
is_transmit None = false
