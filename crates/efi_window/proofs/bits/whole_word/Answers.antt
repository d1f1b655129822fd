use Rattle.std.proofs.Common.{◌≡◌, refl}
use Rattle.std.specs.Int.{bit_at}
use Rattle.std.proofs.lemmas.Nat.Bits.{bit_at_ones}
use Rattle.efi_window.proofs.bits.whole_word.Goals as goal

pub returns-then-set : goal.returns-then-set
returns-then-set c = λ i h.
    let one : bit_at 18446744073709551615 i ≡ 1 = bit_at_ones 64 i h in
    rw one (rw c.if-set.true refl)
