-- What the message that a port took no datagram does (RFC 792, type 3, code 3).
use Rattle.std.specs.Prelude.{ℕ, ◌+◌, ◌/◌, Bool, false, ◌==◌, ◌&&◌, nat_le, List, [], ◌∷◌, length, drop, slice_index, Option, Some, None, if◌then◌else◌}
use Rattle.byteorder.specs.Endian.{big_number}
use Rattle.efi_base.specs.declared.plain.Addr.{Addr}
use Rattle.efi_base.specs.declared.tokens.End.TheVariants.{PortUnreachable}
use Rattle.efi_book.specs.declared.children.Child.{Child}
use Rattle.efi_book.specs.Books.{Tokens, oldest_kind_of}
use Rattle.efi_book.specs.Cores.{id_of}
use Rattle.wire_ip4.specs.Message.{IcmpMessage, message_of}
use Rattle.wire_ip4.specs.Packet.{header_length}
use Rattle.drv_udp4.specs.declared.icmp.Quote.{Quote}
use Rattle.drv_udp4.specs.declared.work.UdpCfg.{UdpCfg}
use Rattle.drv_udp4.specs.declared.work.Ask.{Ask}
use Rattle.drv_udp4.specs.Hearing.{is_peer}
use Rattle.drv_udp4.specs.Networks.{address_of, is_at_address}
use Rattle.efi_book.specs.Rounds.{ended_as}
use Rattle.drv_udp4.specs.Works.{kind_of_ask}

-- a header of version 4 and protocol 17, and eight octets behind it; its checksum and length count for nothing
abbrev pub has_quote : List ℕ → Bool
has_quote bytes =
    nat_le 28 (length bytes) && (slice_index bytes 0 / 16 == 4 && (nat_le 20 (header_length bytes)
    && (nat_le (header_length bytes + 8) (length bytes) && slice_index bytes 9 == 17)))

-- addresses and ports of the datagram
abbrev pub quote_in : List ℕ → Quote
quote_in bytes = record {
  src = record { 0 = big_number 4 (drop 12 bytes) };
  sport = big_number 2 (drop (header_length bytes) bytes);
  dest = record { 0 = big_number 4 (drop 16 bytes) };
  dport = big_number 2 (drop (header_length bytes + 2) bytes);
}

abbrev pub quote_of : List ℕ → Option Quote
quote_of bytes = if has_quote bytes then Some (quote_in bytes) else None

abbrev pub quoted_in : Option IcmpMessage → Option Quote
quoted_in None = None
quoted_in (Some m) = if m.kind == 3 && m.code == 3 then quote_of m.payload else None

-- the datagram that the message in these octets quotes
abbrev pub quoted : List ℕ → Option Quote
quoted bytes = quoted_in (message_of bytes)

-- the datagram was sent by a child that is configured so
abbrev pub is_sender : Option Addr → Quote → UdpCfg → Bool
is_sender home q c = (is_at_address (address_of home c) q.src.0 && c.port == q.sport) && is_peer c.peer q.dest.0 q.dport

abbrev pub sent_by : Option Addr → Quote → Option UdpCfg → Bool
sent_by home q None = false
sent_by home q (Some c) = is_sender home q c

abbrev pub is_senders : Option Addr → Quote → Child (Option UdpCfg) → Bool
is_senders home q child = sent_by home q child.value

-- the child's oldest receive token, if it has one, ends so
abbrev pub refused : Child (Option UdpCfg) → Tokens Ask → Tokens Ask
refused child ts = ended_as PortUnreachable (oldest_kind_of kind_of_ask ts (id_of child.serial) 2) ts

abbrev pub all_refused : List (Child (Option UdpCfg)) → Tokens Ask → Tokens Ask
all_refused [] ts = ts
all_refused (c ∷ cs) ts = all_refused cs (refused c ts)
