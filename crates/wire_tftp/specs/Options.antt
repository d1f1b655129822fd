-- The options of a request and of its acknowledgment (RFC 2347; blksize: RFC 2348; tsize: RFC 2349).
use Rattle.std.specs.Prelude.{ℕ, ◌^◌, ◌&&◌, ◌||◌, Bool, not, nat_le, nat_lt, List, [], ◌∷◌, length, find, codes, Option, Some, None, if◌then◌else◌}
use Rattle.std.specs.Char.{is_ascii_digit}
use Rattle.std.specs.List.{list_all, list_any}
use Rattle.std.specs.Option.{option_map, option_and_then}
use Rattle.std.specs.Str.{str_eq_ignore_ascii_case}
use Rattle.std.specs.Str.Parse.{digits_value}
use Rattle.wire_tftp.specs.declared.options.Opts.{Opts}
use Rattle.wire_tftp.specs.Texts.{texts_of}

-- an option: its name and its value
pub record Item : Type 0 where
  pub name : List ℕ
  pub value : List ℕ

-- the options of these texts: each name has a value behind it
abbrev pub items_of : List (List ℕ) → Option (List Item)
items_of [] = Some []
items_of (name ∷ []) = None
items_of (name ∷ value ∷ texts) = option_map (λ items. record { name = name; value = value } ∷ items) (items_of texts)

-- the options that fill the octets
abbrev pub items_in : List ℕ → Option (List Item)
items_in octets = option_and_then items_of (texts_of octets)

-- a number of decimal digits that fits 64 bits
unfoldable pub number_of : List ℕ → Option ℕ
number_of text =
    if nat_le 1 (length text) && (list_all is_ascii_digit text && nat_lt (digits_value 10 text) (2 ^ 64))
    then Some (digits_value 10 text) else None

-- the value of the first option of this name, whatever its case
abbrev pub first_value : List ℕ → List Item → Option (List ℕ)
first_value name items = option_map (λ i. i.value) (find (λ i. str_eq_ignore_ascii_case i.name name) items)

-- what a counted value says: nothing where there is none, and None where it is no number
abbrev pub said_by : Option (List ℕ) → Option (Option ℕ)
said_by None = Some None
said_by (Some value) = option_map (λ n. Some n) (number_of value)

abbrev pub said : List ℕ → List Item → Option (Option ℕ)
said name items = said_by (first_value name items)

-- an option of another name than the two that are read
abbrev pub is_other : Item → Bool
is_other i = not (str_eq_ignore_ascii_case i.name (codes "blksize") || str_eq_ignore_ascii_case i.name (codes "tsize"))

-- what is read of options, where both counted values are numbers or absent
abbrev pub opts_from : Option (Option ℕ) → Option (Option ℕ) → Bool → Option Opts
opts_from None tsize other = None
opts_from (Some blksize) None other = None
opts_from (Some blksize) (Some tsize) other = Some (record { blksize = blksize; tsize = tsize; other = other })

unfoldable pub opts_in : List Item → Option Opts
opts_in items = opts_from (said (codes "blksize") items) (said (codes "tsize") items) (list_any is_other items)

-- the options that fill the octets, as they are read
abbrev pub opts_of : List ℕ → Option Opts
opts_of octets = option_and_then opts_in (items_in octets)
