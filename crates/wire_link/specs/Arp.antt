-- Address resolution for IPv4 over Ethernet (RFC 826, "Packet format").
use Rattle.std.specs.Prelude.{◌≡◌, ◌⊎◌, ℕ, ◌^◌, ◌<◌, ◌&&◌, ◌||◌, ◌==◌, Bool, nat_le, List, ◌∷◌, ◌++◌, length, take, drop, slice_index, Option, Some, None, if◌then◌else◌}
use Rattle.byteorder.specs.Endian.{big_number, big_bytes}

-- an ARP packet: its operation, 1 for a request and 2 for a reply; the Ethernet and the IPv4 address of its sender,
-- and then those of its target
pub record ArpPacket : Type 0 where
  pub op : ℕ
  pub sha : List ℕ
  pub spa : ℕ
  pub tha : List ℕ
  pub tpa : ℕ

-- the operations: a request, and the reply to one
abbrev pub request : ℕ
request = 1

abbrev pub reply : ℕ
reply = 2

abbrev pub IsOperation : ℕ → Type 0
IsOperation op = (op ≡ request) ⊎ (op ≡ reply)

-- what has a spelling
pub record IsArpPacket (m : ArpPacket) : Type 0 where
  pub op : IsOperation m.op
  pub sha : length m.sha ≡ 6
  pub spa : m.spa < 2 ^ 32
  pub tha : length m.tha ≡ 6
  pub tpa : m.tpa < 2 ^ 32

-- the octets of a packet: hardware 1, which is Ethernet, protocol 0x0800, which is IPv4, addresses of 6 and of 4
-- octets, the operation, the sender and the target
abbrev pub arp_text : ArpPacket → List ℕ
arp_text m =
    big_bytes 2 1 ++ (big_bytes 2 2048 ++ (6 ∷ 4 ∷ (big_bytes 2 m.op ++ (m.sha ++ (big_bytes 4 m.spa ++ (m.tha ++ big_bytes 4 m.tpa))))))

-- a packet stands in front: 28 octets with these numbers at their places
abbrev pub has_arp : List ℕ → Bool
has_arp bytes =
    nat_le 28 (length bytes) && (big_number 2 bytes == 1 && (big_number 2 (drop 2 bytes) == 2048
    && (slice_index bytes 4 == 6 && (slice_index bytes 5 == 4
    && (big_number 2 (drop 6 bytes) == 1 || big_number 2 (drop 6 bytes) == 2)))))

-- the parts of a packet at their places; octets behind the 28th are padding
abbrev pub arp_in : List ℕ → ArpPacket
arp_in bytes = record {
  op = big_number 2 (drop 6 bytes);
  sha = take 6 (drop 8 bytes);
  spa = big_number 4 (drop 14 bytes);
  tha = take 6 (drop 18 bytes);
  tpa = big_number 4 (drop 24 bytes);
}

-- the packet that the octets spell
abbrev pub arp_of : List ℕ → Option ArpPacket
arp_of bytes = if has_arp bytes then Some (arp_in bytes) else None
