-- Messages, as they are written.
use Rattle.std.proofs.Common.{◌≡◌, ℕ, suc, ◌+◌, ◌<◌, ◌≤◌, Bool, true, nat_le, List, [], ◌∷◌, ◌++◌, length, get_or, drop, drop-cons, Result, subst, sym, ap, ◌∙◌, length-append, arith}
use Rattle.std.proofs.lemmas.Bool.Decides.{nat_tests}
use Rattle.std.proofs.lemmas.List.{append-nil}
use Rattle.byteorder.specs.Endian.{big_bytes}
use Rattle.efi_base.specs.declared.fault.NoRoom.{NoRoom}
use Rattle.efi_base.specs.Writes.{Writes}
use Rattle.wire_dns.specs.declared.message.Query.{Query}
use Rattle.wire_dns.specs.declared.row.Row.{Row}
use Rattle.wire_dns.specs.Spelling.{name_text, is_name, header_text, flag, question_text, query_text, row_text, rows_text, whole_text, answer_text}
use Rattle.wire_dns.proofs.Labels.{name-short}
use Rattle.wire_dns.proofs.Options.{if-true, if-false}

-- a row doesn't fit any more
pub rows-full : (all now : List ℕ) (rows : List Row) (i : ℕ) (row other : Row) → i < length rows → get_or rows i other ≡ row → all ≡ now ++ rows_text (drop i rows)
    → 500 < length now + length (row_text row) → 500 < length all
rows-full all now rows i row other h is e full =
    let next : drop i rows ≡ row ∷ drop (suc i) rows = drop-cons rows i other h ∙ ap (λ r. r ∷ drop (suc i) rows) is in
    let whole : length all ≡ length (now ++ (row_text row ++ rows_text (drop (suc i) rows))) = ap length (e ∙ ap (λ rs. now ++ rows_text rs) next) in
    omega (arith, whole, length-append now (row_text row ++ rows_text (drop (suc i) rows)), length-append (row_text row) (rows_text (drop (suc i) rows)))

-- a question always fits
pub question-fits : (q : Query) → is_name q.name ≡ true → 500 < length (question_text q ++ []) → ⊥
question-fits q name full =
    let short = name-short q.name name in
    omega (arith, full, ap length (append-nil (question_text q)), short, length-append (name_text q.name) (big_bytes 2 q.kind ++ big_bytes 2 1))

pub query-whole : (q : Query) (header rest : List ℕ) → header ≡ header_text q.id (flag q.rd 256) 0 → rest ≡ question_text q ++ [] → header ++ rest ≡ query_text q
unfolding query_text
query-whole q header rest h r = ap (λ x. x ++ rest) h ∙ ap (λ x. header_text q.id (flag q.rd 256) 0 ++ x) (r ∙ append-nil (question_text q))

pub answer-whole : (q : Query) (tc : Bool) (code : ℕ) (rows : List Row) → length (question_text q ++ rows_text rows) ≤ 500 → answer_text q tc code rows ≡ whole_text q tc code rows
unfolding answer_text
answer-whole q tc code rows h = if-true (nat_le (length (whole_text q tc code rows)) 512) _ _ (grind (arith, nat_tests))

pub answer-cut : (q : Query) (tc : Bool) (code : ℕ) (rows : List Row) → 500 < length (question_text q ++ rows_text rows) → answer_text q tc code rows ≡ whole_text q true code []
unfolding answer_text
answer-cut q tc code rows h = if-false (nat_le (length (whole_text q tc code rows)) 512) _ _ (grind (arith, nat_tests))

pub same-writes : (text other old : List ℕ) (result : Result ℕ NoRoom) (now : List ℕ) → text ≡ other → Writes text old result now → Writes other old result now
same-writes text other old result now e w = subst (λ t. Writes t old result now) e w

pub answer-made : (q : Query) (tc : Bool) (code : ℕ) (rows : List Row) (flags : ℕ) (header rest : List ℕ) → flags ≡ 32768 + flag tc 512 + flag q.rd 256 + code
    → header ≡ header_text q.id flags (length rows) → rest ≡ question_text q ++ rows_text rows → length rest ≤ 500 → header ++ rest ≡ answer_text q tc code rows
answer-made q tc code rows flags header rest f h r short =
    ap (λ x. x ++ rest) (h ∙ ap (λ n. header_text q.id n (length rows)) f) ∙ ap (λ x. header_text q.id (32768 + flag tc 512 + flag q.rd 256 + code) (length rows) ++ x) r
    ∙ sym (answer-whole q tc code rows (rw r at short))
