-- The pieces of an image: octets as they are, and a rule that fills.
use Rattle.std.specs.Prelude.{ℕ, ◌+◌, ◌*◌, ◌/◌, ◌%◌, ◌==◌, List, [], length, map, bytes_eq, codes, Option, Some, None, option_map, option_and_then, if◌then◌else◌}
use Rattle.std.specs.List.{flat_map, range_with_len}
use Rattle.text_base.specs.Hex.{is_hex_text, hex_octets}
use Rattle.session_text.specs.Words.{behind, number_in, split}
use Rattle.session_text.specs.declared.image.Piece.{Piece}
use Rattle.session_text.specs.declared.image.Piece.TheVariants.{Octets, Fill}

-- digits, or `-` for none
abbrev pub hex_of : List ℕ → Option (List ℕ)
hex_of text =
    if bytes_eq text (codes "-") then Some []
    else if length text == 0 then None
    else if is_hex_text text then Some (hex_octets text) else None

-- a number of octets, and the first of them
abbrev pub fill_of : List ℕ → Option Piece
fill_of text =
    option_and_then (λ w. option_and_then (λ count. option_map (λ first. Fill count first) (number_in 0 255 w.1))
    (number_in 0 18446744073709551615 w.0)) (split text)

-- `fill` and its numbers, or `hex` and octets
abbrev pub piece_from : Option (List ℕ) → List ℕ → Option Piece
piece_from None text = option_and_then (λ digits. option_map Octets (hex_of digits)) (behind (codes "hex") text)
piece_from (Some fill) text = fill_of fill

abbrev pub piece_of : List ℕ → Option Piece
piece_of text = piece_from (behind (codes "fill") text) text

abbrev pub piece_length : Piece → ℕ
piece_length (Octets octets) = length octets
piece_length (Fill count first) = count

-- the octet at a place of a piece that is filled
abbrev pub fill_octet : ℕ → ℕ → ℕ
fill_octet first i = (first + 7 * i + i / 251) % 256

abbrev pub piece_octets : Piece → List ℕ
piece_octets (Octets octets) = octets
piece_octets (Fill count first) = map (fill_octet first) (range_with_len 0 count)

-- the image: its pieces joined in order
unfoldable pub image_octets : List Piece → List ℕ
image_octets pieces = flat_map piece_octets pieces
