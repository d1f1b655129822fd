use Rattle.std.proofs.Common.{inl, inr, ◌∙◌, ◌≡◌, ◌+◌, ◌-◌, ◌/◌, ◌^◌, ◌<◌, ◌≤◌, ℕ, w64, arith, sym}
use Rattle.std.specs.Int.{bit_at, trailing_zeros}
use Rattle.std.proofs.lemmas.Nat.Bits.{bit_at-trailing_zeros, bit_at_above}
use Rattle.std.proofs.lemmas.Nat.{shr_le}
use Rattle.std.proofs.lemmas.Bool.{cases_lt}
use Rattle.efi_window.proofs.Words.{bit-shifted, bit-behind, none-behind}
use Rattle.efi_window.proofs.bits.zeros_from.Goals as goal

pub returns-then-rest-eq0-clause-zeros : goal.returns-then-rest-eq0-clause-zeros
returns-then-rest-eq0-clause-zeros c = λ i a b. none-behind c.args.word c.args.from i a (cc)

lowest : (word from : ℕ) → word < 2 ^ 64 → from < 64 → 0 < word / 2 ^ from
    → (from + trailing_zeros w64 (word / 2 ^ from) ≤ 64) × (bit_at word (from + trailing_zeros w64 (word / 2 ^ from)) ≡ 1)
    × ((i : ℕ) → from ≤ i → i < from + trailing_zeros w64 (word / 2 ^ from) → bit_at word i ≡ 0)
lowest word from h k p =
    let t = bit_at-trailing_zeros w64 (word / 2 ^ from) p (omega (arith, shr_le word from)) in
    let one : bit_at word (from + trailing_zeros w64 (word / 2 ^ from)) ≡ 1 = sym (bit-shifted word from (trailing_zeros w64 (word / 2 ^ from))) ∙ t.1 in (
      elim (cases_lt (from + trailing_zeros w64 (word / 2 ^ from)) 64) [ inl l ↦ omega arith | inr l ↦ absurd (omega (arith, one, bit_at_above word 64 (from + trailing_zeros w64 (word / 2 ^ from)) h l)) ],
      one,
      λ i a b. bit-behind word from i a ∙ t.2 (i - from) (omega arith),
    )

pub returns-clause-within : goal.returns-clause-within
returns-clause-within c = (lowest c.args.word c.args.from (omega arith) (omega arith) (omega arith)).0

pub returns-clause-zeros : goal.returns-clause-zeros
returns-clause-zeros c = (lowest c.args.word c.args.from (omega arith) (omega arith) (omega arith)).2

pub returns-clause-ends : goal.returns-clause-ends
returns-clause-ends c = λ l. (lowest c.args.word c.args.from (omega arith) (omega arith) (omega arith)).1
