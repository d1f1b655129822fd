-- The octets of a datagram fill a room of their length.
use Rattle.std.proofs.Common.{◌≡◌, ℕ, ◌+◌, List, ◌++◌, length, Result, Ok, Err, IsOk, refl, sym, ap, ◌∙◌, arith, append-nil}
use Rattle.std.proofs.lemmas.List.{drop_all}
use Rattle.efi_base.specs.Writes.{Writes}
use Rattle.efi_base.specs.declared.fault.NoRoom.{NoRoom}
use Rattle.wire_l4.specs.Datagram.{Datagram, datagram_text, sent_sum, udp_header}
use Rattle.wire_l4.specs.Pseudo.{message_sum}

size : (d : Datagram) (sum : ℕ) → length (udp_header d sum ++ d.payload) ≡ 8 + length d.payload
size d sum = omega arith

text-size : (src dest : ℕ) (d : Datagram) → length (datagram_text src dest d) ≡ 8 + length d.payload
unfolding datagram_text
text-size src dest d = size d (sent_sum (message_sum src dest 17 (udp_header d 0 ++ d.payload)))

filled-by : (text old new : List ℕ) (r : Result ℕ NoRoom) → length old ≡ length text → Writes text old r new → IsOk r × (new ≡ text)
filled-by text old new (Ok n) e w =
    (refl, w.2 ∙ ap (λ rest. text ++ rest) (drop_all (length text) old (omega (arith, e))) ∙ append-nil text)
filled-by text old new (Err bad) e w = absurd (omega (arith, e, w.0))

pub text-fills : (src dest : ℕ) (d : Datagram) (old new : List ℕ) (r : Result ℕ NoRoom) → length old ≡ 8 + length d.payload
    → Writes (datagram_text src dest d) old r new → IsOk r × (new ≡ datagram_text src dest d)
text-fills src dest d old new r e w = filled-by (datagram_text src dest d) old new r (e ∙ sym (text-size src dest d)) w
