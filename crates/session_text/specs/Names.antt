-- The rows of the server's names: addresses and aliases.
use Rattle.std.specs.Prelude.{ℕ, Bool, ◌&&◌, not, nat_lt, List, [], ◌∷◌, ◌++◌, length, bytes_eq, codes, Option, Some, None, option_map, option_and_then, if◌then◌else◌}
use Rattle.std.specs.List.{list_any}
use Rattle.std.specs.Str.{str_eq_ignore_ascii_case}
use Rattle.text_base.specs.Addresses.{ip_of}
use Rattle.text_base.specs.Names.{is_name}
use Rattle.session_text.specs.Words.{split}
use Rattle.session_text.specs.declared.names.AddressRow.{AddressRow}
use Rattle.session_text.specs.declared.names.AliasRow.{AliasRow}
use Rattle.session_text.specs.declared.names.NameLine.{NameLine}
use Rattle.session_text.specs.declared.names.NameLine.TheVariants as line
use Rattle.session_text.specs.declared.names.Names.{Names}

abbrev pub name_of : List ℕ → Option (List ℕ)
name_of text = if is_name text then Some text else None

-- a name and its address
abbrev pub address_row : List ℕ → Option AddressRow
address_row text =
    option_and_then (λ w. option_and_then (λ ip. option_map (λ name. record { name = name; ip = ip }) (name_of w.0)) (ip_of w.1)) (split text)

-- a name that stands for another one
abbrev pub alias_row : List ℕ → Option AliasRow
alias_row text =
    option_and_then (λ w. option_and_then (λ name. option_map (λ alias. record { alias = alias; name = name }) (name_of w.0)) (name_of w.1)) (split text)

-- the line of this word, and what stands behind it
abbrev pub name_line : List ℕ → List ℕ → Option NameLine
name_line key text =
    if bytes_eq key (codes "name") then option_map line.Address (address_row text)
    else if bytes_eq key (codes "cname") then option_map line.Alias (alias_row text)
    else None

-- names are compared without case
abbrev pub has_address : List AddressRow → List ℕ → Bool
has_address rows name = list_any (λ row. str_eq_ignore_ascii_case row.name name) rows

abbrev pub has_alias : List AliasRow → List ℕ → Bool
has_alias rows alias = list_any (λ row. str_eq_ignore_ascii_case row.alias alias) rows

-- at most 16 rows of a kind, each of another name
abbrev pub put_address : List AddressRow → AddressRow → Option (List AddressRow)
put_address rows row = if nat_lt (length rows) 16 && not (has_address rows row.name) then Some (rows ++ (row ∷ [])) else None

abbrev pub put_alias : List AliasRow → AliasRow → Option (List AliasRow)
put_alias rows row = if nat_lt (length rows) 16 && not (has_alias rows row.alias) then Some (rows ++ (row ∷ [])) else None

abbrev pub put_name : Names → NameLine → Option Names
put_name names (line.Address row) = option_map (λ rows. record names { addresses = rows }) (put_address names.addresses row)
put_name names (line.Alias row) = option_map (λ rows. record names { aliases = rows }) (put_alias names.aliases row)
