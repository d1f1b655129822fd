-- Lines as their reader meets them.
use Rattle.std.proofs.Common.{◌≡◌, ℕ, ◌+◌, ◌<◌, ◌≤◌, Bool, true, false, ◌&&◌, ◌==◌, nat_lt, cond, List, [], ◌∷◌, ◌++◌, suc, length, take, drop, get_or, position, Option, Some, None, Result, Ok, Err, inl, inr, sym, refl, ap, ◌∙◌, arith, append_assoc}
use Rattle.std.proofs.lemmas.List.{append-nil}
use Rattle.std.proofs.lemmas.Grind.{common_steps}
use Rattle.std.proofs.lemmas.Bool.{and_parts, cases_lt}
use Rattle.std.proofs.lemmas.List.{length-take, drop-drop}
use Rattle.std.proofs.lemmas.Bool.Decides.{nat_tests}
use borrow.Author.Tests.{ltb-true}
use Rattle.std.specs.List.{list_all, prefix_len}
use Rattle.text_base.specs.Lines.{Read, on_ok, after_line, after_octet, read_octet, read_on, is_plain, IsPart, IsLine}

not_lf : (b : ℕ) → is_plain b ≡ true → (b == 10) ≡ false
not_lf b plain = grind (arith, nat_tests)

-- an octet within a line
octet_read : {D : Type 0} (next : D → List ℕ → Option D) (said : D) (at : ℕ) (rest : List ℕ) (b : ℕ) → is_plain b ≡ true → length rest < 65536
    → read_octet next (record { said = said; at = at; rest = rest }) b ≡ Ok (record { said = said; at = at; rest = rest ++ b ∷ [] })
octet_read {D} next said at rest b plain few =
    let r : Read D = record { said = said; at = at; rest = rest } in
    let room : nat_lt (length rest) 65536 ≡ true = grind (arith, nat_tests) in
    let good : Result (Read D) ℕ = Ok (record { said = said; at = at; rest = rest ++ b ∷ [] }) in
    ap (λ (t : Bool). cond t (after_line r (next said rest)) (after_octet r b)) (not_lf b plain)
    ∙ ap (λ (t : Bool). cond t good (Err at)) room

octet_over : {D : Type 0} (next : D → List ℕ → Option D) (said : D) (at : ℕ) (rest : List ℕ) (b : ℕ) → is_plain b ≡ true → 65536 ≤ length rest
    → read_octet next (record { said = said; at = at; rest = rest }) b ≡ Err at
octet_over {D} next said at rest b plain many =
    let r : Read D = record { said = said; at = at; rest = rest } in
    let full : nat_lt (length rest) 65536 ≡ false = grind (arith, nat_tests) in
    let good : Result (Read D) ℕ = Ok (record { said = said; at = at; rest = rest ++ b ∷ [] }) in
    ap (λ (t : Bool). cond t (after_line r (next said rest)) (after_octet r b)) (not_lf b plain)
    ∙ ap (λ (t : Bool). cond t good (Err at)) full

-- octets within a line
pub plain_read : {D : Type 0} (next : D → List ℕ → Option D) (said : D) (at : ℕ) (rest octets more : List ℕ)
    → list_all is_plain octets ≡ true → length rest + length octets ≤ 65536
    → read_on next (record { said = said; at = at; rest = rest }) (octets ++ more)
    ≡ read_on next (record { said = said; at = at; rest = rest ++ octets }) more
plain_read {D} next said at rest [] more plain few =
    ap (λ (xs : List ℕ). read_on next (record { said = said; at = at; rest = xs }) more) (sym (append-nil rest))
plain_read {D} next said at rest (b ∷ octets) more plain few =
    let parts = and_parts (is_plain b) (list_all is_plain octets) plain in
    let size : length (rest ++ b ∷ []) ≡ length rest + 1 = grind (arith, common_steps) in
    ap (λ (t : Result (Read D) ℕ). on_ok t (λ s. read_on next s (octets ++ more))) (octet_read next said at rest b parts.0 (omega arith))
    ∙ plain_read next said at (rest ++ b ∷ []) octets more parts.1 (omega (arith, size))
    ∙ ap (λ (xs : List ℕ). read_on next (record { said = said; at = at; rest = xs }) more) (append_assoc rest (b ∷ []) octets)

-- more octets than a line may have
pub over_read : {D : Type 0} (next : D → List ℕ → Option D) (said : D) (at : ℕ) (rest octets more : List ℕ)
    → list_all is_plain octets ≡ true → length rest ≤ 65536 → 65536 < length rest + length octets
    → read_on next (record { said = said; at = at; rest = rest }) (octets ++ more) ≡ Err at
over_read {D} next said at rest [] more plain few many = absurd (omega arith)
over_read {D} next said at rest (b ∷ octets) more plain few many =
    let parts = and_parts (is_plain b) (list_all is_plain octets) plain in
    let go : Result (Read D) ℕ → Result (Read D) ℕ = λ t. on_ok t (λ s. read_on next s (octets ++ more)) in
    elim (cases_lt (length rest) 65536) as (λ _. on_ok (read_octet next (record { said = said; at = at; rest = rest }) b) (λ s. read_on next s (octets ++ more)) ≡ Err at) [
      | inl room ↦
          (let size : length (rest ++ b ∷ []) ≡ length rest + 1 = grind (arith, common_steps) in
          ap go (octet_read next said at rest b parts.0 room)
          ∙ over_read next said at (rest ++ b ∷ []) octets more parts.1 (omega (arith, size)) (omega (arith, size)))
      | inr full ↦ ap go (octet_over next said at rest b parts.0 full)
    ]

-- an LF
pub line_read : {D : Type 0} (next : D → List ℕ → Option D) (said : D) (at : ℕ) (rest more : List ℕ) (found : Option D)
    → next said rest ≡ found
    → read_on next (record { said = said; at = at; rest = rest }) (10 ∷ more)
    ≡ on_ok (after_line (record { said = said; at = at; rest = rest }) found) (λ s. read_on next s more)
line_read {D} next said at rest more found is =
    ap (λ (t : Option D). on_ok (after_line (record { said = said; at = at; rest = rest }) t) (λ s. read_on next s more)) is

-- pieces one after the other
pub pieces_read : {D : Type 0} (next : D → List ℕ → Option D) (r : Read D) (octets more : List ℕ)
    → read_on next r (octets ++ more) ≡ on_ok (read_on next r octets) (λ s. read_on next s more)
pieces_read next r [] more = refl
pieces_read {D} next r (b ∷ octets) more =
    go (read_octet next r b) (λ s. pieces_read next s octets more)
  where
    go : (t : Result (Read D) ℕ)
        → ((s : Read D) → read_on next s (octets ++ more) ≡ on_ok (read_on next s octets) (λ s. read_on next s more))
        → on_ok t (λ s. read_on next s (octets ++ more)) ≡ on_ok (on_ok t (λ s. read_on next s octets)) (λ s. read_on next s more)
    go (Ok s) later = later s
    go (Err n) later = refl

one_more : (n b : ℕ) (octets : List ℕ) → take (1 + n) (b ∷ octets) ≡ b ∷ take n octets
one_more n b octets = let e : 1 + n ≡ suc n = omega arith in ap (λ (k : ℕ). take k (b ∷ octets)) e

one_further : (n b : ℕ) (octets : List ℕ) → get_or (b ∷ octets) (1 + n) 0 ≡ get_or octets n 0
one_further n b octets = let e : 1 + n ≡ suc n = omega arith in ap (λ (k : ℕ). get_or (b ∷ octets) k 0) e

-- what stands in front of the first LF
plain_before : (octets : List ℕ) → list_all is_plain (take (prefix_len is_plain octets) octets) ≡ true
plain_before [] = refl
plain_before (b ∷ octets) = by_case (is_plain b) refl (plain_before octets)
  where
    by_case : (t : Bool) → is_plain b ≡ t → list_all is_plain (take (prefix_len is_plain octets) octets) ≡ true
        → list_all is_plain (take (cond t (1 + prefix_len is_plain octets) 0) (b ∷ octets)) ≡ true
    by_case true is all =
        ap (list_all is_plain) (one_more (prefix_len is_plain octets) b octets)
        ∙ ap (λ (t : Bool). t && list_all is_plain (take (prefix_len is_plain octets) octets)) is ∙ all
    by_case false is all = refl

is_lf : (b : ℕ) → is_plain b ≡ false → b ≡ 10
is_lf b lf = grind (arith, nat_tests)

-- the first LF
lf_there : (octets : List ℕ) → prefix_len is_plain octets < length octets → get_or octets (prefix_len is_plain octets) 0 ≡ 10
lf_there [] within = absurd (omega arith)
lf_there (b ∷ octets) within = by_case (is_plain b) refl (lf_there octets) within
  where
    by_case : (t : Bool) → is_plain b ≡ t
        → (prefix_len is_plain octets < length octets → get_or octets (prefix_len is_plain octets) 0 ≡ 10)
        → cond t (1 + prefix_len is_plain octets) 0 < length (b ∷ octets)
        → get_or (b ∷ octets) (cond t (1 + prefix_len is_plain octets) 0) 0 ≡ 10
    by_case true is later within = one_further (prefix_len is_plain octets) b octets ∙ later (omega arith)
    by_case false is later within = is_lf b is

place_at : (octets : List ℕ) (n : ℕ) → n < length octets → get_or octets n 0 ≡ 10 → octets ≡ take n octets ++ (10 ∷ drop (n + 1) octets)
place_at octets n within is = grind (arith, common_steps)

pub line_there : (octets : List ℕ) (i : ℕ) → Some i ≡ position (λ b. b == 10) octets → IsLine octets i
line_there octets i found =
    by_case (nat_lt (prefix_len is_plain octets) (length octets)) refl found
  where
    by_case : (t : Bool) → nat_lt (prefix_len is_plain octets) (length octets) ≡ t → Some i ≡ cond t (Some (prefix_len is_plain octets)) None → IsLine octets i
    by_case true test is =
        let same : i ≡ prefix_len is_plain octets = cc in
        let within : i < length octets = rw same (ltb-true _ _ test) in
        let lf : get_or octets i 0 ≡ 10 = rw same (lf_there octets (ltb-true _ _ test)) in
        record {
          within = within;
          plain = rw same (plain_before octets);
          size = omega (arith, length-take i octets);
          parts = place_at octets i within lf;
        }
    by_case false test is = absurd (cc)

pub no_line_there : (octets : List ℕ) → None ≡ position (λ b. b == 10) octets → list_all is_plain octets ≡ true
no_line_there octets found =
    by_case (nat_lt (prefix_len is_plain octets) (length octets)) refl found
  where
    by_case : (t : Bool) → nat_lt (prefix_len is_plain octets) (length octets) ≡ t → None ≡ cond t (Some (prefix_len is_plain octets)) None → list_all is_plain octets ≡ true
    by_case true test is = absurd (cc)
    by_case false test is =
        let over : length octets ≤ prefix_len is_plain octets = grind (arith, nat_tests) in
        let all : take (prefix_len is_plain octets) octets ≡ octets = grind (arith, common_steps) in
        ap (list_all is_plain) (sym all) ∙ plain_before octets

-- a line at the front that is too long
pub line_over : {D : Type 0} (next : D → List ℕ → Option D) (said : D) (at : ℕ) (octets : List ℕ) (i : ℕ) → IsLine octets i → 65536 < i
    → read_on next (record { said = said; at = at; rest = [] }) octets ≡ Err at
line_over {D} next said at octets i line over =
    ap (λ (xs : List ℕ). read_on next (record { said = said; at = at; rest = [] }) xs) line.parts
    ∙ over_read next said at [] (take i octets) (10 ∷ drop (i + 1) octets) line.plain (omega arith) (omega (arith, line.size))

-- a line at the front
line_front : {D : Type 0} (next : D → List ℕ → Option D) (said : D) (at : ℕ) (octets : List ℕ) (i : ℕ) (found : Option D) → IsLine octets i → i ≤ 65536
    → next said (take i octets) ≡ found
    → read_on next (record { said = said; at = at; rest = [] }) octets
    ≡ on_ok (after_line (record { said = said; at = at; rest = take i octets }) found) (λ s. read_on next s (drop (i + 1) octets))
line_front {D} next said at octets i found line few is =
    ap (λ (xs : List ℕ). read_on next (record { said = said; at = at; rest = [] }) xs) line.parts
    ∙ plain_read next said at [] (take i octets) (10 ∷ drop (i + 1) octets) line.plain (omega (arith, line.size))
    ∙ line_read next said at (take i octets) (drop (i + 1) octets) found is

pub line_bad : {D : Type 0} (next : D → List ℕ → Option D) (said : D) (at : ℕ) (octets : List ℕ) (i : ℕ) → IsLine octets i → i ≤ 65536
    → next said (take i octets) ≡ None → read_on next (record { said = said; at = at; rest = [] }) octets ≡ Err at
line_bad next said at octets i line few is = line_front next said at octets i None line few is

pub line_good : {D : Type 0} (next : D → List ℕ → Option D) (said after : D) (at : ℕ) (octets : List ℕ) (i : ℕ) → IsLine octets i → i ≤ 65536
    → next said (take i octets) ≡ Some after
    → read_on next (record { said = said; at = at; rest = [] }) octets
    ≡ read_on next (record { said = after; at = at + (i + 1); rest = [] }) (drop (i + 1) octets)
line_good {D} next said after at octets i line few is =
    line_front next said at octets i (Some after) line few is
    ∙ ap (λ (n : ℕ). read_on next (record { said = after; at = at + (n + 1); rest = [] }) (drop (i + 1) octets)) line.size

-- no line at the front
pub rest_over : {D : Type 0} (next : D → List ℕ → Option D) (said : D) (at : ℕ) (octets : List ℕ) → list_all is_plain octets ≡ true → 65536 < length octets
    → read_on next (record { said = said; at = at; rest = [] }) octets ≡ Err at
rest_over {D} next said at octets plain over =
    ap (λ (xs : List ℕ). read_on next (record { said = said; at = at; rest = [] }) xs) (sym (append-nil octets))
    ∙ over_read next said at [] octets [] plain (omega arith) (omega arith)

pub rest_kept : {D : Type 0} (next : D → List ℕ → Option D) (said : D) (at : ℕ) (octets : List ℕ) → list_all is_plain octets ≡ true → length octets ≤ 65536
    → read_on next (record { said = said; at = at; rest = [] }) octets ≡ Ok (record { said = said; at = at; rest = octets })
rest_kept {D} next said at octets plain few =
    ap (λ (xs : List ℕ). read_on next (record { said = said; at = at; rest = [] }) xs) (sym (append-nil octets))
    ∙ plain_read next said at [] octets [] plain (omega arith)

-- the state behind a line, among all octets
pub moved_on : {D : Type 0} (next : D → List ℕ → Option D) (said : D) (at start n : ℕ) (octets : List ℕ)
    → read_on next (record { said = said; at = at + start + n; rest = [] }) (drop n (drop start octets))
    ≡ read_on next (record { said = said; at = at + (start + n); rest = [] }) (drop (start + n) octets)
moved_on {D} next said at start n octets =
    let place : at + start + n ≡ at + (start + n) = omega arith in
    let same : drop n (drop start octets) ≡ drop (start + n) octets = drop-drop n start octets in
    ap (λ (p : ℕ). read_on next (record { said = said; at = p; rest = [] }) (drop n (drop start octets))) place
    ∙ ap (λ (xs : List ℕ). read_on next (record { said = said; at = at + (start + n); rest = [] }) xs) same

-- a piece behind less than a line
pub kept_read : {D : Type 0} (next : D → List ℕ → Option D) (said : D) (at : ℕ) (kept piece : List ℕ) → IsPart kept
    → read_on next (record { said = said; at = at; rest = kept }) piece
    ≡ read_on next (record { said = said; at = at; rest = [] }) (kept ++ piece)
kept_read next said at kept piece part = sym (plain_read next said at [] kept piece part.plain (omega (arith, part.few)))
