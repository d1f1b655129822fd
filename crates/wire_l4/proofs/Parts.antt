-- A message in two parts is summed with its pseudo header as the message in one piece.
use Rattle.std.proofs.Common.{◌≡◌, ℕ, ◌+◌, List, ◌++◌, length, take, sym, ap, ◌∙◌, arith, length-append, append_assoc}
use Rattle.std.proofs.lemmas.List.{take_at}
use Rattle.efi_base.specs.Checksum.{checksum_of}
use Rattle.wire_l4.specs.Pseudo.{pseudo_header, message_sum}

-- two parts, without what is behind them
pub take-parts : (front header rest : List ℕ) (n : ℕ) → n ≡ length front + length header → take n (front ++ (header ++ rest)) ≡ front ++ header
take-parts front header rest n e =
    ap (take n) (sym (append_assoc front header rest)) ∙ take_at (front ++ header) rest n (omega (arith, e, length-append front header))

pub sum-of-parts : (src dest proto len n : ℕ) (header rest payload : List ℕ) → n ≡ 12 + length header → len ≡ length header + length payload
    → checksum_of (take n (pseudo_header src dest proto len ++ (header ++ rest)) ++ payload) ≡ message_sum src dest proto (header ++ payload)
sum-of-parts src dest proto len n header rest payload e l =
    let parts = take-parts (pseudo_header src dest proto len) header rest n e in
    let whole : length (header ++ payload) ≡ len = omega (arith, l, length-append header payload) in
    rw (parts, whole) (ap checksum_of (append_assoc (pseudo_header src dest proto len) header payload))
