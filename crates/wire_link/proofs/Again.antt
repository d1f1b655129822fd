-- What was written is read again.
use Rattle.std.proofs.Common.{◌≡◌, ℕ, ◌<◌, ◌+◌, ◌*◌, ◌/◌, ◌%◌, ◌≤◌, true, nat_le, List, ◌++◌, Some, None, if◌then◌else◌, refl, inl, inr, arith}
use Rattle.std.proofs.lemmas.Bool.Decides.{nat_tests}
use Rattle.wire_link.specs.Arp.{ArpPacket, IsArpPacket, arp_text, arp_of, arp_in, has_arp}
use Rattle.wire_link.specs.Ether.{Frame, IsFrame, frame_text, frame_of}
use Rattle.wire_link.proofs.Addresses.{six}

-- the numbers of two and of four octets
two : (x : ℕ) → x < 65536 → x / 256 % 256 * 256 + (x % 256 * 1 + 0) ≡ x
two x h = omega arith

four : (x : ℕ) → x < 4294967296 → x / 16777216 % 256 * 16777216 + (x / 65536 % 256 * 65536 + (x / 256 % 256 * 256 + (x % 256 * 1 + 0))) ≡ x
four x h = omega arith

enough : {A : Type 0} (least n : ℕ) (x y : A) → least ≤ n → x ≡ y → (if nat_le least n then Some x else None) ≡ Some y
enough least n x y h e = rw e (grind (arith, nat_tests))

arp-there : (m : ArpPacket) (behind : List ℕ) → IsArpPacket m → has_arp (arp_text m ++ behind) ≡ true
arp-there m behind h =
    elim h.op [
      | inl e ↦ rw (six _ h.sha, six _ h.tha, e) (grind (arith, nat_tests))
      | inr e ↦ rw (six _ h.sha, six _ h.tha, e) (grind (arith, nat_tests))
    ]

arp-parts : (m : ArpPacket) (behind : List ℕ) → IsArpPacket m → arp_in (arp_text m ++ behind) ≡ m
arp-parts m behind h =
    let op : m.op < 65536 = elim h.op [ inl e ↦ omega (arith, e) | inr e ↦ omega (arith, e) ] in
    rw (six _ h.sha, six _ h.tha) (rw (two m.op op, four m.spa h.spa, four m.tpa h.tpa) refl)

pub arp-again : (m : ArpPacket) (behind : List ℕ) → IsArpPacket m → arp_of (arp_text m ++ behind) ≡ Some m
arp-again m behind h = rw (arp-there m behind h, arp-parts m behind h) refl

pub frame-again : (f : Frame) → IsFrame f → frame_of (frame_text f) ≡ Some f
frame-again f h = rw (six _ h.dest, six _ h.src) (rw (two f.proto h.proto) (grind (arith, nat_tests)))
