-- An input that goes from a source to a reader in pieces.
use Rattle.std.specs.Prelude.{◌≡◌, ℕ, Option, List, ◌++◌, length}
use Rattle.std.specs.Io.KnownBytes.{Consumes, IsAtEnd}

-- so many octets were taken from those that were left
abbrev pub TakesExactly : Option (List ℕ) → Option (List ℕ) → ℕ → Type 0
TakesExactly old new n = (front : List ℕ) × Consumes old new front × (length front ≡ n)

-- n octets went from what was left to the reader, none only at the end
pub record FeedsPiece {About Reader : Type 0} (has_fed : About → List ℕ → Reader → Type 0) (old new : Option (List ℕ)) (before now : Reader) (n : ℕ) : Type 0 where
  pub piece : List ℕ
  pub taken : Consumes old new piece
  pub count : length piece ≡ n
  pub end : n ≡ 0 → IsAtEnd new
  pub fed : (about : About) (fed : List ℕ) → has_fed about fed before → has_fed about (fed ++ piece) now

-- n octets that went from what was left were fed so far
pub record HasTaken {About Reader : Type 0} (has_fed : About → List ℕ → Reader → Type 0) (old new : Option (List ℕ)) (first now : Reader) (n : ℕ) : Type 0 where
  pub octets : List ℕ
  pub taken : Consumes old new octets
  pub count : length octets ≡ n
  pub fed : (about : About) (before : List ℕ) → has_fed about before first → has_fed about (before ++ octets) now
