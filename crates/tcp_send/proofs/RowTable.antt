-- The rows as a table: from the fourth on they are 8,000 ticks apart.
use Rattle.std.proofs.Common.{◌≡◌, ◌≤◌, ℕ, zero, suc, ◌+◌, ◌-◌, ◌*◌, min, refl, ap, ◌∙◌, arith}
use Rattle.tcp_send.specs.Rows.{wait_at, row_at}

pub wait-late : (k : ℕ) → wait_at (suc (suc (suc k))) ≡ 8000
wait-late zero = refl
wait-late (suc k) = ap (λ w. min 8000 (2 * w)) (wait-late k)

pub row-late : (k : ℕ) → row_at (suc (suc (suc k))) ≡ 15000 + 8000 * k
unfolding row_at
row-late zero = refl
row-late (suc k) = omega (arith, row-late k, wait-late (suc k))

pub row-of : (p : ℕ) → 3 ≤ p → row_at p ≡ 15000 + 8000 * (p - 3)
row-of p le =
    let e : p ≡ suc (suc (suc (p - 3))) = omega arith in
    ap row_at e ∙ row-late (p - 3)
