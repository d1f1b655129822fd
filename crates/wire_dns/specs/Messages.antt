-- Queries and answers (RFC 1035, sections 4.1.1 and 4.1.2): twelve octets, and one question of class IN.
use Rattle.std.specs.Prelude.{ℕ, ◌+◌, ◌/◌, ◌%◌, ◌==◌, ◌&&◌, Bool, nat_le, List, length, drop, Option, Some, None, if◌then◌else◌}
use Rattle.std.specs.Option.{option_map, option_and_then}
use Rattle.byteorder.specs.Endian.{big_number}
use Rattle.wire_dns.specs.declared.message.Query.{Query}
use Rattle.wire_dns.specs.declared.row.Row.{Row}
use Rattle.wire_dns.specs.Names.{name_read}
use Rattle.wire_dns.specs.Rows.{rows_in, are_answers}

-- an answer: its header, its question and its rows
pub record Message : Type 0 where
  pub id : ℕ
  pub rd : Bool
  pub tc : Bool
  pub code : ℕ
  pub name : List ℕ
  pub kind : ℕ
  pub rows : List Row

-- the number of two octets at this place
abbrev pub word_at : List ℕ → ℕ → ℕ
word_at octets place = big_number 2 (drop place octets)

-- the flags, from the highest: QR, opcode (4 bits), AA, TC, RD, RA, three that are reserved, code (4 bits)
abbrev pub flags_in : List ℕ → ℕ
flags_in octets = word_at octets 2

abbrev pub rd_in : List ℕ → Bool
rd_in octets = flags_in octets / 256 % 2 == 1

abbrev pub tc_in : List ℕ → Bool
tc_in octets = flags_in octets / 512 % 2 == 1

abbrev pub code_in : List ℕ → ℕ
code_in octets = flags_in octets % 16

-- QR and opcode of a query, and of an answer to it
abbrev pub query_top : ℕ
query_top = 0

abbrev pub answer_top : ℕ
answer_top = 16

-- a header of this QR and opcode, with one question
abbrev pub has_header : ℕ → List ℕ → Bool
has_header top octets = nat_le 12 (length octets) && (flags_in octets / 2048 == top && word_at octets 4 == 1)

-- the name that is asked for and the place behind it, where a type and the class IN stand
abbrev pub asked : List ℕ → List ℕ × ℕ → Option (List ℕ × ℕ)
asked octets (name, place) = if nat_le (place + 4) (length octets) && word_at octets (place + 2) == 1 then Some (name, place) else None

unfoldable pub question_in : ℕ → List ℕ → Option (List ℕ × ℕ)
question_in top octets = if has_header top octets then option_and_then (asked octets) (name_read octets 12) else None

abbrev pub query_from : List ℕ → List ℕ × ℕ → Query
query_from octets (name, place) = record { id = word_at octets 0; rd = rd_in octets; name = name; kind = word_at octets place }

-- the query in these octets. What is behind its question isn't read.
abbrev pub query_of : List ℕ → Option Query
query_of octets = option_map (query_from octets) (question_in query_top octets)

abbrev pub message_from : List ℕ → List ℕ × ℕ → Message
message_from octets (name, place) = record {
  id = word_at octets 0;
  rd = rd_in octets;
  tc = tc_in octets;
  code = code_in octets;
  name = name;
  kind = word_at octets place;
  rows = rows_in octets (word_at octets 6) (place + 4);
}

-- the answer in these octets, whose records all lie within them
abbrev pub answer_from : List ℕ → List ℕ × ℕ → Option Message
answer_from octets (name, place) =
    if are_answers octets (word_at octets 8 + word_at octets 10) (word_at octets 6) (place + 4) then Some (message_from octets (name, place)) else None

unfoldable pub answer_of : List ℕ → Option Message
answer_of octets = option_and_then (answer_from octets) (question_in answer_top octets)

-- what an answer was asked
abbrev pub question_of : Message → Query
question_of m = record { id = m.id; rd = m.rd; name = m.name; kind = m.kind }
