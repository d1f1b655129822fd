-- What the octets of a message are read as.
use Rattle.std.specs.Prelude.{◌≡◌, ◌<◌, ◌^◌, ℕ, List, length, Some}
use Rattle.wire_dhcp.specs.declared.message.DhcpFixed.{DhcpFixed}
use Rattle.wire_dhcp.specs.Leases.{file_of}
use Rattle.wire_dhcp.specs.Message.{fixed_of, message_of, option_of}
use Rattle.wire_dhcp.specs.Options.{Item, value_of}

-- fields that fit their octets
pub record AreFields (f : DhcpFixed) : Type 0 where
  pub op : f.op < 2 ^ 8
  pub xid : f.xid < 2 ^ 32
  pub flags : f.flags < 2 ^ 16
  pub ciaddr : f.ciaddr.0 < 2 ^ 32
  pub yiaddr : f.yiaddr.0 < 2 ^ 32
  pub siaddr : f.siaddr.0 < 2 ^ 32
  pub mac : length f.mac.0 ≡ 6

-- the octets are a message that can be read, of these fields and options
pub record IsReadAs (octets : List ℕ) (f : DhcpFixed) (items : List Item) : Type 0 where
  pub readable : message_of octets ≡ Some octets
  pub fields : fixed_of octets ≡ f
  pub file : file_of octets ≡ f.file
  pub options : (code : ℕ) → option_of code octets ≡ value_of code items
