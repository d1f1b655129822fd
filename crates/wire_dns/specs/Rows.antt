-- Rows of a message (RFC 1035, sections 3.2.1 and 4.1.3): resource records of class IN and of the types A, CNAME and PTR.
use Rattle.std.specs.Prelude.{ℕ, zero, suc, ◌+◌, ◌==◌, ◌&&◌, Bool, true, false, nat_le, List, [], ◌∷◌, length, drop, Option, Some, None, is_some, unwrap_or, if◌then◌else◌}
use Rattle.std.specs.Option.{option_map, option_and_then, option_flatten}
use Rattle.byteorder.specs.Endian.{big_number}
use Rattle.wire_dns.specs.declared.entry.Entry.{Entry}
use Rattle.wire_dns.specs.declared.entry.Rows.{Rows}
use Rattle.wire_dns.specs.declared.row.Row.{Row}
use Rattle.wire_dns.specs.declared.row.RowValue.{RowValue}
use Rattle.wire_dns.specs.declared.row.RowValue.TheVariants.{At, Alias, Pointer}
use Rattle.wire_dns.specs.Names.{name_at, name_read, behind_name}

-- the record whose name ends at this place, if its value ends within the message
abbrev pub entry_from : List ℕ → List ℕ × ℕ → Option Entry
entry_from msg (owner, place) =
    if nat_le (place + 10 + big_number 2 (drop (place + 8) msg)) (length msg)
    then Some (record {
      owner = owner;
      kind = big_number 2 (drop place msg);
      class = big_number 2 (drop (place + 2) msg);
      secs = big_number 4 (drop (place + 4) msg);
      from = place + 10;
      size = big_number 2 (drop (place + 8) msg);
    })
    else None

-- the record at this place: a name, a type, a class, seconds, and a value with its size in front
unfoldable pub entry_at : List ℕ → ℕ → Option Entry
entry_at msg place = option_and_then (entry_from msg) (name_read msg place)

abbrev pub behind_entry : Entry → ℕ
behind_entry e = e.from + e.size

-- an address of four octets
abbrev pub address_value : List ℕ → Entry → Option RowValue
address_value msg e = if e.size == 4 then Some (At (record { 0 = big_number 4 (drop e.from msg) })) else None

-- a name that fills the value
abbrev pub name_value : List ℕ → Entry → Option (List ℕ)
name_value msg e = if behind_name msg e.from == behind_entry e then name_at msg e.from else None

-- what the record says: nothing where it isn't of class IN or of another type, and None where its value is none of its type
unfoldable pub value_of : List ℕ → Entry → Option (Option RowValue)
value_of msg e =
    if e.class == 1 then
    (if e.kind == 1 then option_map (λ v. Some v) (address_value msg e)
    else if e.kind == 5 then option_map (λ n. Some (Alias n)) (name_value msg e)
    else if e.kind == 12 then option_map (λ n. Some (Pointer n)) (name_value msg e)
    else Some None)
    else Some None

-- the row that a record shows
abbrev pub row_of : List ℕ → Entry → Option Row
row_of msg e = option_map (λ v. record { name = e.owner; secs = e.secs; value = v }) (option_flatten (value_of msg e))

abbrev pub in_front : Option Row → List Row → List Row
in_front None rows = rows
in_front (Some row) rows = row ∷ rows

-- the rows that so many records from this place on show
unfoldable pub rows_in : List ℕ → ℕ → ℕ → List Row
rows_in msg zero place = []
rows_in msg (suc count) place = unwrap_or (option_map (λ e. in_front (row_of msg e) (rows_in msg count (behind_entry e))) (entry_at msg place)) []

-- so many records lie within the message
unfoldable pub are_within : List ℕ → ℕ → ℕ → Bool
are_within msg zero place = true
are_within msg (suc count) place = unwrap_or (option_map (λ e. are_within msg count (behind_entry e)) (entry_at msg place)) false

-- so many answers lie within the message, and so many other records behind them; no answer's value is none of its type
unfoldable pub are_answers : List ℕ → ℕ → ℕ → ℕ → Bool
are_answers msg others zero place = are_within msg others place
are_answers msg others (suc count) place =
    unwrap_or (option_map (λ e. is_some (value_of msg e) && are_answers msg others count (behind_entry e)) (entry_at msg place)) false

-- the rows that a walk has before it
abbrev pub list_of : Rows → List Row
list_of rows = rows_in rows.octets.now rows.left rows.place
