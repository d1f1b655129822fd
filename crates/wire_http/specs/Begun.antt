-- How many field lines have begun in octets that may grow to a head.
use Rattle.std.specs.Prelude.{ℕ, ◌+◌, ◌==◌, List, [], ◌∷◌, if◌then◌else◌}
use Rattle.httparse.specs.Pieces.{is_newline}
use Rattle.wire_http.specs.declared.lines.Place.{Place}
use Rattle.wire_http.specs.declared.lines.Place.TheVariants.{Before, Within, Start, After}

-- the place after one more octet
abbrev pub next_place : Place → ℕ → Place
next_place Before b = if is_newline b then Before else Within
next_place Within b = if b == 10 then Start else Within
next_place Start b = if is_newline b then After else Within
next_place After b = After

-- 1 where the octet is the first of a field line
abbrev pub begins : Place → ℕ → ℕ
begins Before b = 0
begins Within b = 0
begins Start b = if is_newline b then 0 else 1
begins After b = 0

-- the field lines that begin in these octets, read on from the place
abbrev pub begun_from : Place → List ℕ → ℕ
begun_from place [] = 0
begun_from place (b ∷ bytes) = begins place b + begun_from (next_place place b) bytes

abbrev pub fields_begun : List ℕ → ℕ
fields_begun bytes = begun_from Before bytes
