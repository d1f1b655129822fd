-- What was written is read again.
use Rattle.std.proofs.Common.{◌≡◌, ℕ, zero, suc, ◌<◌, ◌+◌, ◌-◌, ◌*◌, ◌/◌, ◌%◌, ◌==◌, Bool, true, false, List, [], ◌∷◌, ◌++◌, length, take, Some, refl, arith, length-append}
use Rattle.std.proofs.lemmas.Bool.{eq-eqb}
use Rattle.std.proofs.lemmas.Bool.Decides.{nat_tests}
use Rattle.std.proofs.lemmas.List.{take_at}
use Rattle.byteorder.specs.Endian.{big_bytes}
use Rattle.efi_base.specs.Checksum.{checksum_of, AreOctets}
use Rattle.efi_base.proofs.Filling.{filled-in}
use Rattle.wire_ip4.specs.Message.{IcmpMessage, IsIcmpMessage, front_text, message_text, message_of, message_in, has_message}
use Rattle.wire_ip4.specs.Packet.{Packet, IsPacket, packet_text, header_text, fragment_number, packet_of, packet_in, has_packet, has_right_header}

-- the numbers of two and of four octets
two : (x : ℕ) → x < 65536 → x / 256 % 256 * 256 + (x % 256 * 1 + 0) ≡ x
two x h = omega arith

four : (x : ℕ) → x < 4294967296 → x / 16777216 % 256 * 16777216 + (x / 65536 % 256 * 65536 + (x / 256 % 256 * 256 + (x % 256 * 1 + 0))) ≡ x
four x h = omega arith

-- the word of flags and place has its three parts
word-fits : (df mf : Bool) (place : ℕ) → place < 65536 → fragment_number df mf place < 65536
word-fits false false place h = omega arith
word-fits false true place h = omega arith
word-fits true false place h = omega arith
word-fits true true place h = omega arith

word-df : (df mf : Bool) (place : ℕ) → place < 65536 → (fragment_number df mf place / 16384 % 2 == 1) ≡ df
word-df false false place h = grind (arith, nat_tests)
word-df false true place h = grind (arith, nat_tests)
word-df true false place h = grind (arith, nat_tests)
word-df true true place h = grind (arith, nat_tests)

word-mf : (df mf : Bool) (place : ℕ) → place < 65536 → (fragment_number df mf place / 8192 % 2 == 1) ≡ mf
word-mf false false place h = grind (arith, nat_tests)
word-mf false true place h = grind (arith, nat_tests)
word-mf true false place h = grind (arith, nat_tests)
word-mf true true place h = grind (arith, nat_tests)

word-place : (df mf : Bool) (place : ℕ) → place < 65536 → place % 8 ≡ 0 → fragment_number df mf place % 8192 * 8 ≡ place
word-place false false place h k = omega arith
word-place false true place h k = omega arith
word-place true false place h k = omega arith
word-place true true place h k = omega arith

-- the octets in front of the checksum and behind it
front-octets : (p : Packet) → IsPacket p
    → AreOctets (69 ∷ 0 ∷ (big_bytes 2 (20 + length p.payload) ++ (big_bytes 2 p.id ++ (big_bytes 2 (fragment_number p.df p.mf p.place) ++ (p.ttl ∷ p.proto ∷ [])))))
front-octets p h zero = omega arith
front-octets p h (suc zero) = omega arith
front-octets p h (suc (suc zero)) = omega arith
front-octets p h (suc (suc (suc zero))) = omega arith
front-octets p h (suc (suc (suc (suc zero)))) = omega arith
front-octets p h (suc (suc (suc (suc (suc zero))))) = omega arith
front-octets p h (suc (suc (suc (suc (suc (suc zero)))))) = omega arith
front-octets p h (suc (suc (suc (suc (suc (suc (suc zero))))))) = omega arith
front-octets p h (suc (suc (suc (suc (suc (suc (suc (suc zero)))))))) = omega (arith, h.ttl)
front-octets p h (suc (suc (suc (suc (suc (suc (suc (suc (suc zero))))))))) = omega (arith, h.proto)
front-octets p h (suc (suc (suc (suc (suc (suc (suc (suc (suc (suc i)))))))))) = omega arith

back-octets : (p : Packet) → AreOctets (big_bytes 4 p.src ++ big_bytes 4 p.dest)
back-octets p zero = omega arith
back-octets p (suc zero) = omega arith
back-octets p (suc (suc zero)) = omega arith
back-octets p (suc (suc (suc zero))) = omega arith
back-octets p (suc (suc (suc (suc zero)))) = omega arith
back-octets p (suc (suc (suc (suc (suc zero))))) = omega arith
back-octets p (suc (suc (suc (suc (suc (suc zero)))))) = omega arith
back-octets p (suc (suc (suc (suc (suc (suc (suc zero))))))) = omega arith
back-octets p (suc (suc (suc (suc (suc (suc (suc (suc i)))))))) = omega arith

-- the checksum that was filled in
header-sums : (p : Packet) → IsPacket p → checksum_of (header_text p (checksum_of (header_text p 0))) ≡ 0
header-sums p h =
    filled-in
    (69 ∷ 0 ∷ (big_bytes 2 (20 + length p.payload) ++ (big_bytes 2 p.id ++ (big_bytes 2 (fragment_number p.df p.mf p.place) ++ (p.ttl ∷ p.proto ∷ [])))))
    (big_bytes 4 p.src ++ big_bytes 4 p.dest) (front-octets p h) (back-octets p) refl

packet-there : (p : Packet) (sum : ℕ) (behind : List ℕ) → IsPacket p → has_packet (header_text p sum ++ (p.payload ++ behind)) ≡ true
packet-there p sum behind h =
    let len : 20 + length p.payload < 65536 = omega (arith, h.payload) in
    rw (two (20 + length p.payload) len) (grind (arith, nat_tests, length-append p.payload behind))

packet-parts : (p : Packet) (sum : ℕ) (behind : List ℕ) → IsPacket p → packet_in (header_text p sum ++ (p.payload ++ behind)) ≡ p
packet-parts p sum behind h =
    let len : 20 + length p.payload < 65536 = omega (arith, h.payload) in
    let word = word-fits p.df p.mf p.place h.place in
    let front : take (20 + length p.payload - 20) (p.payload ++ behind) ≡ p.payload = take_at p.payload behind _ (omega arith) in
    rw (two (20 + length p.payload) len, two p.id h.id, two (fragment_number p.df p.mf p.place) word, four p.src h.src, four p.dest h.dest)
    (rw (word-df p.df p.mf p.place h.place, word-mf p.df p.mf p.place h.place, word-place p.df p.mf p.place h.place h.eights, front) refl)

-- whatever follows it, as the padding of a frame
pub packet-again : (p : Packet) (behind : List ℕ) → IsPacket p → packet_of (packet_text p ++ behind) ≡ Some p
unfolding packet_of
packet-again p behind h =
    let sum = checksum_of (header_text p 0) in
    let right : has_right_header (header_text p sum ++ (p.payload ++ behind)) ≡ true = eq-eqb _ _ (header-sums p h) in
    rw (packet-there p sum behind h, right, packet-parts p sum behind h) refl

rest-octets : (rest : ℕ) (payload : List ℕ) → AreOctets payload → AreOctets (big_bytes 4 rest ++ payload)
rest-octets rest payload h zero = omega arith
rest-octets rest payload h (suc zero) = omega arith
rest-octets rest payload h (suc (suc zero)) = omega arith
rest-octets rest payload h (suc (suc (suc zero))) = omega arith
rest-octets rest payload h (suc (suc (suc (suc i)))) = h i

kind-octets : (kind code : ℕ) → kind < 256 → code < 256 → AreOctets (kind ∷ code ∷ [])
kind-octets kind code h k zero = h
kind-octets kind code h k (suc zero) = k
kind-octets kind code h k (suc (suc i)) = omega arith

-- the checksum of all of the message that was filled in
message-sums : (m : IcmpMessage) → IsIcmpMessage m → checksum_of (message_text m) ≡ 0
message-sums m h =
    filled-in (m.kind ∷ m.code ∷ []) (big_bytes 4 m.rest ++ m.payload) (kind-octets m.kind m.code h.kind h.code) (rest-octets m.rest m.payload h.payload) refl

message-there : (m : IcmpMessage) → IsIcmpMessage m → has_message (message_text m) ≡ true
message-there m h = rw (message-sums m h) (grind (arith, nat_tests))

message-parts : (m : IcmpMessage) (sum : ℕ) → IsIcmpMessage m → message_in (front_text m sum ++ m.payload) ≡ m
message-parts m sum h = rw (four m.rest h.rest) refl

pub message-again : (m : IcmpMessage) → IsIcmpMessage m → message_of (message_text m) ≡ Some m
message-again m h = rw (message-there m h, message-parts m (checksum_of (front_text m 0 ++ m.payload)) h) refl
