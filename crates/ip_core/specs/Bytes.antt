-- What the reassembly keeps of a datagram's fragments: at each place a byte or none, and the end.
use Rattle.std.specs.Prelude.{ℕ, nat_le, List, [], length, take, Option, Some, None, if◌then◌else◌}
use Rattle.efi_window.specs.Places.{front, put}
use Rattle.wire_ip4.specs.Packet.{Packet}
use Rattle.ip_core.specs.Pools.{Keeping, reach_of}

pub record Bytes : Type 0 where
  pub end : Option ℕ
  pub held : List (Option ℕ)

-- the end after a fragment
abbrev pub end_with : Option ℕ → Packet → Option ℕ
end_with None f = if f.mf then None else Some (reach_of f)
end_with (Some end) f = Some end

-- with the bytes of one more fragment
abbrev pub bytes_with : Bytes → Packet → Bytes
bytes_with b f = record { end = end_with b.end f; held = put f.place f.payload b.held }

-- the bytes below the end, where they are there without a gap
abbrev pub joined_below : Option ℕ → List ℕ → Option (List ℕ)
joined_below None there = None
joined_below (Some end) there = if nat_le end (length there) then Some (take end there) else None

abbrev pub bytes_kept : Keeping Bytes
bytes_kept = record { nothing = record { end = None; held = [] }; add = bytes_with; whole = λ b. joined_below b.end (front b.held) }
