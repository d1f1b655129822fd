-- Texts: octets other than zero, ended by a zero (RFC 1350, section 5; RFC 2347).
use Rattle.std.specs.Prelude.{ℕ, zero, suc, Bool, true, false, List, [], ◌∷◌, ◌++◌, Option, Some, None}
use Rattle.std.specs.Option.{option_map}

-- no octet is zero
abbrev pub is_text : List ℕ → Bool
is_text [] = true
is_text (zero ∷ octets) = false
is_text (suc c ∷ octets) = is_text octets

-- an octet more in front of the first text; octets with no zero behind them are no text
abbrev pub grown : ℕ → Option (List (List ℕ)) → Option (List (List ℕ))
grown octet None = None
grown octet (Some []) = None
grown octet (Some (text ∷ texts)) = Some ((octet ∷ text) ∷ texts)

-- the texts that fill the octets, None where the last has no zero behind it
abbrev pub texts_of : List ℕ → Option (List (List ℕ))
texts_of [] = Some []
texts_of (zero ∷ octets) = option_map (λ texts. [] ∷ texts) (texts_of octets)
texts_of (suc c ∷ octets) = grown (suc c) (texts_of octets)

-- a text with its zero
abbrev pub ended : List ℕ → List ℕ
ended text = text ++ (0 ∷ [])
