-- The octets of names, queries and answers (RFC 1035, section 4.1), without pointers.
use Rattle.std.specs.Prelude.{ℕ, ◌+◌, ◌&&◌, Bool, true, false, nat_le, List, [], ◌∷◌, ◌++◌, length, if◌then◌else◌}
use Rattle.byteorder.specs.Endian.{big_bytes}
use Rattle.efi_base.specs.HostNames.{labels, is_host_name}
use Rattle.wire_dns.specs.declared.message.Query.{Query}
use Rattle.wire_dns.specs.declared.row.Row.{Row}
use Rattle.wire_dns.specs.declared.row.RowValue.{RowValue}
use Rattle.wire_dns.specs.declared.row.RowValue.TheVariants.{At, Alias, Pointer}

-- labels with their lengths in front, and the zero that ends them
abbrev pub labels_text : List (List ℕ) → List ℕ
labels_text [] = 0 ∷ []
labels_text (label ∷ more) = (length label ∷ label) ++ labels_text more

-- a name; the empty one has no labels
unfoldable pub name_text : List ℕ → List ℕ
name_text [] = labels_text []
name_text (c ∷ name) = labels_text (labels (c ∷ name))

-- a name that can be written: empty, or labels of 1 to 63 octets, of at most 253 octets with their dots
abbrev pub is_name : List ℕ → Bool
is_name [] = true
is_name (c ∷ name) = is_host_name (c ∷ name)

-- a header with these flags, one question and so many answers
abbrev pub header_text : ℕ → ℕ → ℕ → List ℕ
header_text id flags answers = big_bytes 2 id ++ big_bytes 2 flags ++ big_bytes 2 1 ++ big_bytes 2 answers ++ big_bytes 4 0

abbrev pub flag : Bool → ℕ → ℕ
flag true value = value
flag false value = 0

-- a question of class IN
abbrev pub question_text : Query → List ℕ
question_text q = name_text q.name ++ (big_bytes 2 q.kind ++ big_bytes 2 1)

unfoldable pub query_text : Query → List ℕ
query_text q = header_text q.id (flag q.rd 256) 0 ++ question_text q

abbrev pub kind_of : RowValue → ℕ
kind_of (At ip) = 1
kind_of (Alias name) = 5
kind_of (Pointer name) = 12

abbrev pub value_text : RowValue → List ℕ
value_text (At ip) = big_bytes 4 ip.0
value_text (Alias name) = name_text name
value_text (Pointer name) = name_text name

-- type, class IN, seconds and size, in front of a value
abbrev pub fixed_text : ℕ → ℕ → ℕ → List ℕ
fixed_text kind secs size = big_bytes 2 kind ++ big_bytes 2 1 ++ big_bytes 4 secs ++ big_bytes 2 size

unfoldable pub row_text : Row → List ℕ
row_text row = name_text row.name ++ (fixed_text (kind_of row.value) row.secs (length (value_text row.value)) ++ value_text row.value)

abbrev pub rows_text : List Row → List ℕ
rows_text [] = []
rows_text (row ∷ rows) = row_text row ++ rows_text rows

-- an answer with all its rows
abbrev pub whole_text : Query → Bool → ℕ → List Row → List ℕ
whole_text q tc code rows = header_text q.id (32768 + flag tc 512 + flag q.rd 256 + code) (length rows) ++ (question_text q ++ rows_text rows)

-- one over 512 octets is cut to its question, and says so
unfoldable pub answer_text : Query → Bool → ℕ → List Row → List ℕ
answer_text q tc code rows = if nat_le (length (whole_text q tc code rows)) 512 then whole_text q tc code rows else whole_text q true code []

-- a row whose names can be written
abbrev pub is_value : RowValue → Bool
is_value (At ip) = true
is_value (Alias name) = is_name name
is_value (Pointer name) = is_name name

abbrev pub is_row : Row → Bool
is_row row = is_name row.name && is_value row.value
