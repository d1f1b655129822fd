-- Pieces that are fed one behind the other.
use Rattle.std.proofs.Common.{◌≡◌, ℕ, List, ◌++◌, Option, None, Result, Ok, Err, ap, sym, ◌∙◌}
use Rattle.text_base.specs.Lines.{Read, new_read, read_on, at_end, on_ok, text_of, IsCause}
use Rattle.text_base.specs.declared.lines.TextFault.{TextFault}
use Rattle.text_base.specs.declared.lines.TextFault.TheVariants.{BadAt, OutOfResources}
use Rattle.session_text.proofs.Feeding.{read_more, bad_later, whole_text}
use Rattle.script_text.specs.Drafts.{start, script_next, is_ended}
use Rattle.script_text.specs.Reading.{Reading, HasRead, Reads, read_so_far}
use Rattle.script_text.specs.Scripts.{script_of, script_from}
use Rattle.script_text.specs.declared.draft.Draft.{Draft}
use Rattle.script_text.specs.declared.script.Script.{Script}

-- a piece that goes on
pub fed_more : (old new : Reading) (piece : List ℕ) → new.fault ≡ None
    → read_on script_next (read_so_far old) piece ≡ Ok (read_so_far new) → Reads piece old new
fed_more old new piece none e fed has =
    (none, read_more script_next (new_read start) (read_so_far old) fed piece has.1 ∙ e)

-- a piece with a bad line, whatever follows
pub fed_bad : (old : Reading) (piece : List ℕ) (e : TextFault) → IsCause (read_on script_next (read_so_far old) piece) e
    → (fed more : List ℕ) → HasRead fed old → IsCause (script_of ((fed ++ piece) ++ more)) e
fed_bad old piece (BadAt n) bad fed more has =
    ap (λ (r : Result Draft ℕ). on_ok r (λ d. Ok (script_from d))) (bad_later script_next is_ended start (read_so_far old) fed piece more n has.1 bad)
fed_bad old piece OutOfResources bad fed more has = tt

-- the end of all that was fed
pub fed_whole : (r : Reading) (said : Draft) (script : Script) → at_end script_next is_ended (read_so_far r) ≡ Ok said → script ≡ script_from said
    → (fed : List ℕ) → HasRead fed r → script_of fed ≡ Ok script
fed_whole r said script e same fed has =
    ap (λ (t : Result Draft ℕ). on_ok t (λ d. Ok (script_from d))) (whole_text script_next is_ended start (read_so_far r) fed has.1 ∙ e)
    ∙ ap (λ s. Ok s) (sym same)

pub fed_broken : (r : Reading) (e : TextFault) → IsCause (at_end script_next is_ended (read_so_far r)) e
    → (fed : List ℕ) → HasRead fed r → IsCause (script_of fed) e
fed_broken r (BadAt n) bad fed has =
    ap (λ (t : Result Draft ℕ). on_ok t (λ d. Ok (script_from d))) (whole_text script_next is_ended start (read_so_far r) fed has.1 ∙ bad)
fed_broken r OutOfResources bad fed has = tt
