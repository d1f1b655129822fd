-- A mask of the low bits is a remainder.
use Rattle.std.proofs.Common.{◌≡◌, ℕ, ◌%◌, bit_and}
use Rattle.std.proofs.lemmas.Nat.{and_mask}

pub low_bit : (n : ℕ) → bit_and n 1 ≡ n % 2
low_bit n = and_mask n 1

pub low_place : (n : ℕ) → bit_and n 8191 ≡ n % 8192
low_place n = and_mask n 13
