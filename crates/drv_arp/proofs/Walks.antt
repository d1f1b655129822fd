-- Lists that are walked by their places.
use Rattle.std.proofs.Common.{◌≡◌, ℕ, zero, suc, ◌+◌, ◌<◌, List, [], ◌∷◌, length, drop, Option, Some, slice_get, get_or, refl, sym, ap, ◌∙◌, arith, add-one}
use Rattle.efi_base.specs.declared.tokens.End.TheVariants.{Success}
use Rattle.efi_book.specs.Books.{Tokens, completed_with}
use Rattle.efi_book.specs.declared.children.Child.{Child}
use Rattle.drv_arp.specs.declared.asks.ArpCfg.{ArpCfg}
use Rattle.drv_arp.specs.declared.asks.Ask.{Ask}
use Rattle.drv_arp.specs.declared.ours.Claim.{Claim}
use Rattle.drv_arp.specs.declared.told.Told.{Told}
use Rattle.drv_arp.specs.Arps.{settled}
use Rattle.drv_arp.specs.Hears.{claim, or_else, first_claim}

-- what stands at a place, and what follows it
at_suc : {A : Type 0} (xs : List A) (i : ℕ) (x : A) → slice_get xs i ≡ Some x → drop i xs ≡ x ∷ drop (suc i) xs
at_suc [] i x h = absurd (cc)
at_suc (y ∷ ys) zero x h = let e : y ≡ x = cc in ap (λ z. z ∷ ys) e
at_suc (y ∷ ys) (suc i) x h = at_suc ys i x h

pub drop_at : {A : Type 0} (xs : List A) (i : ℕ) (x : A) → slice_get xs i ≡ Some x → drop i xs ≡ x ∷ drop (i + 1) xs
drop_at xs i x h = rw (add-one i) (at_suc xs i x h)

here_suc : {A : Type 0} (d : A) (xs : List A) (i : ℕ) → i < length xs → drop i xs ≡ get_or xs i d ∷ drop (suc i) xs
here_suc d [] i h = absurd (omega arith)
here_suc d (x ∷ xs) zero h = refl
here_suc d (x ∷ xs) (suc i) h = here_suc d xs i (omega arith)

pub drop_here : {A : Type 0} (d : A) (xs : List A) (i : ℕ) → i < length xs → drop i xs ≡ get_or xs i d ∷ drop (i + 1) xs
drop_here d xs i h = rw (add-one i) (here_suc d xs i h)

-- one step of the walk over the answers
pub settled_more : (d : Told) (xs : List Told) (i : ℕ) (ts more whole : Tokens Ask) → i < length xs →
    more ≡ completed_with ts (get_or xs i d).ticket Success (get_or xs i d).ask → settled ts (drop i xs) ≡ whole →
    settled more (drop (i + 1) xs) ≡ whole
settled_more d xs i ts more whole h is before =
    ap (λ t. settled t (drop (i + 1) xs)) is ∙ sym (ap (λ l. settled ts l) (drop_here d xs i h)) ∙ before

-- one step of the walk over the children
pub claim_more : (ip i : ℕ) (cs : List (Child (Option ArpCfg))) (c : Child (Option ArpCfg)) (found : Option Claim) → slice_get cs i ≡ Some c
    → found ≡ claim ip c → first_claim ip (drop i cs) ≡ or_else found (first_claim ip (drop (i + 1) cs))
claim_more ip i cs c found at is =
    ap (first_claim ip) (drop_at cs i c at) ∙ ap (λ o. or_else o (first_claim ip (drop (i + 1) cs))) (sym is)
