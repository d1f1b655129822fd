-- Pieces that are fed one behind the other.
use Rattle.std.proofs.Common.{◌≡◌, ℕ, Bool, List, ◌++◌, Option, None, Result, Ok, Err, ap, sym, ◌∙◌}
use Rattle.text_base.specs.Lines.{Read, new_read, read_on, at_end, on_ok, text_of, IsCause}
use Rattle.text_base.specs.declared.lines.TextFault.{TextFault}
use Rattle.text_base.specs.declared.lines.TextFault.TheVariants.{BadAt, OutOfResources}
use Rattle.text_base.proofs.LineLaw.{pieces_read}
use Rattle.session_text.specs.Documents.{session_next, is_ended}
use Rattle.session_text.specs.Drafts.{start}
use Rattle.session_text.specs.Reading.{Reading, HasRead, Reads, read_so_far}
use Rattle.session_text.specs.Sessions.{session_of, session_from}
use Rattle.session_text.specs.declared.draft.Draft.{Draft}
use Rattle.session_text.specs.declared.session.Session.{Session}

-- what was read, and a piece behind it
pub read_more : {D : Type 0} (next : D → List ℕ → Option D) (first from : Read D) (fed piece : List ℕ)
    → read_on next first fed ≡ Ok from → read_on next first (fed ++ piece) ≡ read_on next from piece
read_more {D} next first from fed piece e =
    pieces_read next first fed piece ∙ ap (λ (r : Result (Read D) ℕ). on_ok r (λ s. read_on next s piece)) e

-- a piece that goes on
pub fed_more : (old new : Reading) (piece : List ℕ) → new.fault ≡ None
    → read_on session_next (read_so_far old) piece ≡ Ok (read_so_far new) → Reads piece old new
fed_more old new piece none e fed has =
    (none, read_more session_next (new_read start) (read_so_far old) fed piece has.1 ∙ e)

-- a piece with a bad line, whatever follows
pub bad_later : {D : Type 0} (next : D → List ℕ → Option D) (ended : D → Bool) (first : D) (from : Read D) (fed piece more : List ℕ) (n : ℕ)
    → read_on next (new_read first) fed ≡ Ok from → read_on next from piece ≡ Err n
    → text_of next ended first ((fed ++ piece) ++ more) ≡ Err n
bad_later {D} next ended first from fed piece more n has bad =
    ap (λ (r : Result (Read D) ℕ). on_ok r (at_end next ended)) (
    pieces_read next (new_read first) (fed ++ piece) more
    ∙ ap (λ (r : Result (Read D) ℕ). on_ok r (λ s. read_on next s more)) (read_more next (new_read first) from fed piece has ∙ bad)
    )

pub fed_bad : (old : Reading) (piece : List ℕ) (e : TextFault) → IsCause (read_on session_next (read_so_far old) piece) e
    → (fed more : List ℕ) → HasRead fed old → IsCause (session_of ((fed ++ piece) ++ more)) e
fed_bad old piece (BadAt n) bad fed more has =
    ap (λ (r : Result Draft ℕ). on_ok r (λ d. Ok (session_from d))) (bad_later session_next is_ended start (read_so_far old) fed piece more n has.1 bad)
fed_bad old piece OutOfResources bad fed more has = tt

-- the end of all that was fed
pub whole_text : {D : Type 0} (next : D → List ℕ → Option D) (ended : D → Bool) (first : D) (from : Read D) (fed : List ℕ)
    → read_on next (new_read first) fed ≡ Ok from → text_of next ended first fed ≡ at_end next ended from
whole_text {D} next ended first from fed has = ap (λ (r : Result (Read D) ℕ). on_ok r (at_end next ended)) has

pub fed_whole : (r : Reading) (said : Draft) (session : Session) → at_end session_next is_ended (read_so_far r) ≡ Ok said → session ≡ session_from said
    → (fed : List ℕ) → HasRead fed r → session_of fed ≡ Ok session
fed_whole r said session e same fed has =
    ap (λ (t : Result Draft ℕ). on_ok t (λ d. Ok (session_from d))) (whole_text session_next is_ended start (read_so_far r) fed has.1 ∙ e)
    ∙ ap (λ s. Ok s) (sym same)

pub fed_broken : (r : Reading) (e : TextFault) → IsCause (at_end session_next is_ended (read_so_far r)) e
    → (fed : List ℕ) → HasRead fed r → IsCause (session_of fed) e
fed_broken r (BadAt n) bad fed has =
    ap (λ (t : Result Draft ℕ). on_ok t (λ d. Ok (session_from d))) (whole_text session_next is_ended start (read_so_far r) fed has.1 ∙ bad)
fed_broken r OutOfResources bad fed has = tt
