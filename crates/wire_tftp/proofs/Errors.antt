-- Errors have one text.
use Rattle.std.proofs.Common.{◌≡◌, ℕ, zero, suc, ◌<◌, Bool, true, false, List, [], ◌∷◌, length, drop, Option, Some, None, if◌then◌else◌, refl, ap, ◌∙◌, sym, nat_le, arith}
use Rattle.std.specs.Option.{option_map, option_and_then}
use Rattle.byteorder.specs.Endian.{big_number}
use Rattle.wire_tftp.specs.Packets.{Message, error, error_of, only_text}
use Rattle.wire_tftp.specs.Texts.{texts_of, grown}

behind-empty : (text : List ℕ) (texts : Option (List (List ℕ)))
    → option_and_then only_text (option_map (λ texts. text ∷ texts) (option_map (λ texts. [] ∷ texts) texts)) ≡ None
behind-empty text None = refl
behind-empty text (Some texts) = refl

behind-grown : (text : List ℕ) (c : ℕ) (texts : Option (List (List ℕ)))
    → option_and_then only_text (option_map (λ texts. text ∷ texts) (grown c texts)) ≡ None
behind-grown text c None = refl
behind-grown text c (Some []) = refl
behind-grown text c (Some (next ∷ texts)) = refl

-- octets behind a text are no text, or a second one
more-texts : (text behind : List ℕ) → 0 < length behind → option_and_then only_text (option_map (λ texts. text ∷ texts) (texts_of behind)) ≡ None
more-texts text [] h = absurd (omega arith)
more-texts text (zero ∷ behind) h = behind-empty text (texts_of behind)
more-texts text (suc c ∷ behind) h = behind-grown text (suc c) (texts_of behind)

either-none : (b : Bool) (x : Option Message) → x ≡ None → (if b then x else None) ≡ None
either-none true x e = e
either-none false x e = refl

pub error-more : (body tail text behind : List ℕ) → tail ≡ drop 2 body → texts_of tail ≡ option_map (λ texts. text ∷ texts) (texts_of behind)
    → 0 < length behind → error_of body ≡ None
error-more body tail text behind same e h =
    either-none (nat_le 2 (length body)) (option_map (λ text. error (big_number 2 body) text) (option_and_then only_text (texts_of (drop 2 body))))
    (ap (λ texts. option_map (λ text. error (big_number 2 body) text) (option_and_then only_text texts)) (ap texts_of (sym same) ∙ e)
    ∙ ap (option_map (λ text. error (big_number 2 body) text)) (more-texts text behind h))
