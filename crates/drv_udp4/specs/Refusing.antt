-- Why calls are refused for what they hand in.
use Rattle.std.specs.Prelude.{Bool, false, ◌==◌, ◌&&◌, ◌||◌, not, nat_lt, is_none, length, List, Option, Some, None}
use Rattle.std.specs.List.{list_any}
use Rattle.efi_base.specs.Addresses.{is_mask, is_unicast}
use Rattle.efi_base.specs.Refusals.{first_of, refuse_if}
use Rattle.efi_base.specs.declared.plain.Addr.{Addr}
use Rattle.efi_base.specs.declared.plain.Peer.{Peer}
use Rattle.efi_base.specs.declared.refuse.Refuse.{Refuse}
use Rattle.efi_base.specs.declared.refuse.Refuse.TheVariants.{AccessDenied, BadConfig, NoRoute}
use Rattle.efi_base.specs.declared.refuse.Field.TheVariants.{Address, Length, Mask, Port}
use Rattle.ip_core.specs.declared.routes.Route.{Route}
use Rattle.ip_core.specs.Routing.{best_of}
use Rattle.efi_book.specs.Families.{Family}
use Rattle.drv_udp4.specs.declared.work.UdpCfg.{UdpCfg}
use Rattle.drv_udp4.specs.declared.work.UdpTx.{UdpTx}
use Rattle.drv_udp4.specs.declared.work.UdpWork.{UdpWork}
use Rattle.drv_udp4.specs.declared.work.UdpWork.TheVariants.{Transmit, Receive}
use Rattle.drv_udp4.specs.Hearing.{everyone}
use Rattle.drv_udp4.specs.Networks.{is_destination, is_everywhere}
use Rattle.drv_udp4.specs.Ports.{is_barred_by}

-- a child's own address is unicast; one of the stack's own may have 0.0.0.0
abbrev pub is_bad_address : Bool → Option Addr → Bool
is_bad_address own None = false
is_bad_address own (Some a) = not (is_unicast a.ip.0 || (own && a.ip.0 == 0))

abbrev pub is_bad_mask : Option Addr → Bool
is_bad_mask None = false
is_bad_mask (Some a) = not (is_mask a.mask)

abbrev pub is_bad_peer : Option Peer → Bool
is_bad_peer None = false
is_bad_peer (Some p) = not (is_unicast p.addr.0)

abbrev pub is_bad_port : Option Peer → Bool
is_bad_port None = false
is_bad_port (Some p) = p.port == 0

-- the port is named, and another child has it
abbrev pub is_taken : Option Addr → Family (Option UdpCfg) → UdpCfg → Bool
is_taken home f c = not (c.port == 0) && list_any (is_barred_by home c) (everyone f)

-- why a child doesn't get this configuration, but for want of ports
abbrev pub cfg_refusal : Option Addr → Family (Option UdpCfg) → Bool → UdpCfg → Option Refuse
cfg_refusal home f own c =
    first_of
    (refuse_if (is_taken home f c) AccessDenied)
    (first_of
    (refuse_if (is_bad_address own c.at || is_bad_peer c.peer) (BadConfig Address))
    (first_of
    (refuse_if (is_bad_mask c.at) (BadConfig Mask))
    (refuse_if (is_bad_port c.peer) (BadConfig Port))))

-- why a child of this address doesn't send a datagram: it has more than 65,507 octets, its destination is none, or no
-- route leads there
abbrev pub tx_refusal : List Route → Addr → UdpTx → Option Refuse
tx_refusal routes a tx =
    first_of
    (refuse_if (nat_lt 65507 (length tx.payload)) (BadConfig Length))
    (first_of
    (refuse_if (not (is_destination tx.dest.0)) (BadConfig Address))
    (refuse_if (not (is_everywhere a tx.dest.0) && is_none (best_of tx.dest.0 routes)) NoRoute))

abbrev pub work_refusal : List Route → Addr → UdpWork → Option Refuse
work_refusal routes a (Transmit tx) = tx_refusal routes a tx
work_refusal routes a (Receive got) = None
