-- Ethernet frames with a type field (RFC 894; IEEE 802.3, clause 3.2): destination, source, type, payload.
use Rattle.std.specs.Prelude.{◌≡◌, ℕ, ◌^◌, ◌<◌, ◌-◌, List, ◌++◌, length, take, drop, replicate, nat_le, Option, Some, None, if◌then◌else◌}
use Rattle.byteorder.specs.Endian.{big_number, big_bytes}

-- a frame: two addresses of six octets in the order in which they are sent, the type, and what follows, which
-- may end in padding
pub record Frame : Type 0 where
  pub dest : List ℕ
  pub src : List ℕ
  pub proto : ℕ
  pub payload : List ℕ

-- what has a spelling
pub record IsFrame (f : Frame) : Type 0 where
  pub dest : length f.dest ≡ 6
  pub src : length f.src ≡ 6
  pub proto : f.proto < 2 ^ 16

-- the octets of a frame
abbrev pub frame_text : Frame → List ℕ
frame_text f = f.dest ++ (f.src ++ (big_bytes 2 f.proto ++ f.payload))

-- a frame as it is sent: a payload of fewer than 46 octets is filled up with zeros, since no frame is shorter than 60
-- octets (64 with the check sequence, which the device adds)
abbrev pub padded : Frame → Frame
padded f = record f { payload = f.payload ++ replicate (46 - length f.payload) 0 }

-- the parts of a frame at their places
abbrev pub frame_in : List ℕ → Frame
frame_in bytes = record {
  dest = take 6 bytes;
  src = take 6 (drop 6 bytes);
  proto = big_number 2 (drop 12 bytes);
  payload = drop 14 bytes;
}

-- the frame that the octets spell: one wherever there are 14
abbrev pub frame_of : List ℕ → Option Frame
frame_of bytes = if nat_le 14 (length bytes) then Some (frame_in bytes) else None
