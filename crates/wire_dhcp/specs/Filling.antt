-- Where the octets of an option lie in a room.
use Rattle.std.specs.Prelude.{◌≡◌, ℕ, zero, suc, List, [], ◌∷◌, ◌++◌, length, drop, Option, Some, None, option_map}

-- the room with these octets in it from this place on, as many as fit
abbrev pub laid_at : ℕ → List ℕ → List ℕ → List ℕ
laid_at place octets [] = []
laid_at (suc place) octets (old ∷ room) = old ∷ laid_at place octets room
laid_at zero [] (old ∷ room) = old ∷ room
laid_at zero (octet ∷ octets) (old ∷ room) = octet ∷ laid_at zero octets room

-- the room with the value in front, as many octets as fit, where there is one
abbrev pub filled : Option (List ℕ) → List ℕ → List ℕ
filled None room = room
filled (Some value) room = laid_at 0 value room

-- the length that was found and the room stand for the value
pub record Holds (value : Option (List ℕ)) (found : Option ℕ) (before room : List ℕ) : Type 0 where
  pub size : found ≡ option_map length value
  pub text : room ≡ filled value before

-- the room has this text in front, of so many octets, and is as it was before behind it
pub record Stands (text before : List ℕ) (place : ℕ) (room : List ℕ) : Type 0 where
  pub size : place ≡ length text
  pub room_is : room ≡ text ++ drop place before
