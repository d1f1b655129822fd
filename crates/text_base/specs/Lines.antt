-- Texts of lines, each ended by LF. What a line means behind others is given by `next`: what is said then, or that the
-- line is bad. What `ended` tells is whether the last line was read.
use Rattle.std.specs.Prelude.{◌≡◌, ℕ, ◌+◌, ◌^◌, ◌<◌, ◌≤◌, Bool, true, ◌==◌, not, nat_lt, List, [], ◌∷◌, ◌++◌, length, take, drop, bytes_eq, codes, Option, Some, None, Result, Ok, Err, if◌then◌else◌, ⊤}
use Rattle.std.specs.List.{list_all}
use Rattle.text_base.specs.declared.lines.TextFault.{TextFault}
use Rattle.text_base.specs.declared.lines.TextFault.TheVariants.{BadAt, OutOfResources}

-- what the whole lines say, how many octets they have, and the octets behind the last LF
pub record Read (D : Type 0) : Type 0 where
  pub said : D
  pub at : ℕ
  pub rest : List ℕ

-- nothing was read
abbrev pub new_read : {D : Type 0} → D → Read D
new_read said = record { said = said; at = 0; rest = [] }

-- go on with what was read, or keep the place of a bad line
abbrev pub on_ok : {A B : Type 0} → Result A ℕ → (A → Result B ℕ) → Result B ℕ
on_ok (Ok a) go = go a
on_ok (Err n) go = Err n

-- an LF ended the line behind which this is said
abbrev pub after_line : {D : Type 0} → Read D → Option D → Result (Read D) ℕ
after_line r None = Err r.at
after_line r (Some said) = Ok (record { said = said; at = r.at + (length r.rest + 1); rest = [] })

-- an octet that isn't LF stands in a line of at most 65,536 octets
abbrev pub after_octet : {D : Type 0} → Read D → ℕ → Result (Read D) ℕ
after_octet r b =
    if nat_lt (length r.rest) 65536 then Ok (record { said = r.said; at = r.at; rest = r.rest ++ b ∷ [] }) else Err r.at

abbrev pub read_octet : {D : Type 0} → (D → List ℕ → Option D) → Read D → ℕ → Result (Read D) ℕ
read_octet next r b = if b == 10 then after_line r (next r.said r.rest) else after_octet r b

-- the octets were read, or a line is bad that begins at this place
abbrev pub read_on : {D : Type 0} → (D → List ℕ → Option D) → Read D → List ℕ → Result (Read D) ℕ
read_on next r [] = Ok r
read_on next r (b ∷ octets) = on_ok (read_octet next r b) (λ s. read_on next s octets)

-- the last line, whose LF may be absent
abbrev pub last_line : {D : Type 0} → ℕ → Option D → Result D ℕ
last_line at None = Err at
last_line at (Some said) = Ok said

-- Nothing stands behind the last line. Where it isn't there, the fault's place is the text's length.
abbrev pub at_end : {D : Type 0} → (D → List ℕ → Option D) → (D → Bool) → Read D → Result D ℕ
at_end next ended r =
    if ended r.said then (if length r.rest == 0 then Ok r.said else Err r.at)
    else if bytes_eq r.rest (codes "end") then last_line r.at (next r.said r.rest)
    else Err (r.at + length r.rest)

-- what a whole text says, or the first octet of its first bad line
abbrev pub text_of : {D : Type 0} → (D → List ℕ → Option D) → (D → Bool) → D → List ℕ → Result D ℕ
text_of next ended start text = on_ok (read_on next (new_read start) text) (at_end next ended)

-- an octet that stands within a line
abbrev pub is_plain : ℕ → Bool
is_plain b = not (b == 10)

-- the first line is that of the octets in front of this place, where its LF stands
pub record IsLine (octets : List ℕ) (i : ℕ) : Type 0 where
  pub within : i < length octets
  pub plain : list_all is_plain (take i octets) ≡ true
  pub size : length (take i octets) ≡ i
  pub parts : octets ≡ take i octets ++ (10 ∷ drop (i + 1) octets)

-- less than a line, which may go on
pub record IsPart (rest : List ℕ) : Type 0 where
  pub plain : list_all is_plain rest ≡ true
  pub few : length rest ≤ 65536

-- why reading stopped: the first bad line, or want of memory
abbrev pub IsCause : {A : Type 0} → Result A ℕ → TextFault → Type 0
IsCause read OutOfResources = ⊤
IsCause read (BadAt n) = read ≡ Err n

-- the octets up to this place are whole lines behind others, and these are read
pub record ReadsTo {D : Type 0} (next : D → List ℕ → Option D) (before after : D) (at : ℕ) (octets : List ℕ) (used : ℕ) : Type 0 where
  pub within : used ≤ length octets
  pub rest : IsPart (drop used octets)
  pub read : read_on next (record { said = before; at = at; rest = [] }) octets ≡ Ok (record { said = after; at = at + used; rest = drop used octets })

-- a piece was read behind others, and what isn't a whole line is kept
pub record ReadsPiece {D : Type 0} (next : D → List ℕ → Option D) (before after : D) (from to : ℕ) (old new piece : List ℕ) : Type 0 where
  pub part : IsPart new
  pub fits : to + length new < 2 ^ 64
  pub read : read_on next (record { said = before; at = from; rest = old }) piece ≡ Ok (record { said = after; at = to; rest = new })
