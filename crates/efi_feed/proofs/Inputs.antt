-- What is known of an input that is fed in pieces.
use Rattle.std.proofs.Common.{ℕ, ◌+◌, List, ◌++◌, length, Option, subst, ap, ◌∙◌, length-append}
use Rattle.std.proofs.lemmas.List.{append_assoc}
use Rattle.std.proofs.KnownBytes.{Consumes-trans}
use Rattle.efi_feed.specs.Pieces.{FeedsPiece, HasTaken}

module _ {About Reader : Type 0} (has_fed : About → List ℕ → Reader → Type 0) where
  -- what was fed before, and then a piece
  pub more-fed : (a b c : Option (List ℕ)) (first v w : Reader) (count n : ℕ) → HasTaken has_fed a b first v count → FeedsPiece has_fed b c v w n → HasTaken has_fed a c first w (count + n)
  more-fed a b c first v w count n h p = record {
    octets = h.octets ++ p.piece;
    taken = Consumes-trans a b c h.octets p.piece h.taken p.taken;
    count = length-append h.octets p.piece ∙ ap (λ x. x + length p.piece) h.count ∙ ap (λ x. count + x) p.count;
    fed = λ about before f. subst (λ l. has_fed about l w) (append_assoc before h.octets p.piece) (p.fed about (before ++ h.octets) (h.fed about before f));
  }
