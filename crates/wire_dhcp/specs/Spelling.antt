-- The octets of a message (RFC 2131, section 2; RFC 2132, section 2).
use Rattle.std.specs.Prelude.{ℕ, ◌-◌, ◌==◌, ◌&&◌, Bool, not, nat_le, List, [], ◌∷◌, ◌++◌, length, replicate}
use Rattle.std.specs.List.{list_all}
use Rattle.byteorder.specs.Endian.{big_bytes}
use Rattle.wire_dhcp.specs.declared.message.DhcpFixed.{DhcpFixed}
use Rattle.wire_dhcp.specs.Options.{Item, count_of}

abbrev pub option_text : Item → List ℕ
option_text item = item.code ∷ length item.value ∷ item.value

abbrev pub options_text : List Item → List ℕ
options_text [] = []
options_text (item ∷ items) = option_text item ++ options_text items

-- the fields in front of `sname`: Ethernet addresses of six octets, no hops, no seconds, no relay
abbrev pub front_text : DhcpFixed → List ℕ
front_text f =
    f.op ∷ 1 ∷ 6 ∷ 0 ∷ (big_bytes 4 f.xid ++ (0 ∷ 0 ∷ (big_bytes 2 f.flags ++ (big_bytes 4 f.ciaddr.0 ++ (big_bytes 4 f.yiaddr.0
    ++ (big_bytes 4 f.siaddr.0 ++ (0 ∷ 0 ∷ 0 ∷ 0 ∷ (f.mac.0 ++ replicate 10 0))))))))

-- an empty `sname`, `file` filled up with zeros, and the cookie
abbrev pub names_text : List ℕ → List ℕ
names_text file = replicate 64 0 ++ (file ++ replicate (128 - length file) 0) ++ (99 ∷ 130 ∷ 83 ∷ 99 ∷ [])

-- the octets of a message with these options
unfoldable pub dhcp_text : DhcpFixed → List Item → List ℕ
dhcp_text f items = ((front_text f ++ names_text f.file) ++ options_text items) ++ (255 ∷ [])

-- an option that can be written: option 52 would say that names hold options
abbrev pub is_writable : Item → Bool
is_writable item = nat_le 1 item.code && (nat_le item.code 254 && (not (item.code == 52) && nat_le (length item.value) 255))

-- a message that can be written: its file has at most 128 octets and no zero, and one option is its type
abbrev pub can_write : DhcpFixed → List Item → Bool
can_write f items =
    list_all (λ octet. not (octet == 0)) f.file && (nat_le (length f.file) 128 && (list_all is_writable items && count_of 53 items == 1))
