-- The frame in which a payload goes.
use Rattle.std.specs.Prelude.{ℕ, List}
use Rattle.wire_link.specs.Ether.{frame_text, padded}

-- from one address to another, of this type, filled up with zeros to 60 octets
abbrev pub frame_from : List ℕ → List ℕ → ℕ → List ℕ → List ℕ
frame_from src dest proto payload = frame_text (padded (record { dest = dest; src = src; proto = proto; payload = payload }))
