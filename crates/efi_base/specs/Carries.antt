-- Sums whose carries aren't brought back yet (RFC 1071, section 2).
use Rattle.std.specs.Prelude.{◌≡◌, ℕ, ◌+◌, ◌*◌}

-- the total has the carries of the sum in other places: it is more by a multiple of 65,535, and both are 0 together
pub record Carries (total sum : ℕ) : Type 0 where
  pub more : ℕ
  pub is : total ≡ sum + 65535 * more
  pub zero_ : sum ≡ 0 → more ≡ 0
