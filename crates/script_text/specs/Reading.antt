-- A reader of scripts, as others see it.
use Rattle.std.specs.Prelude.{◌≡◌, ℕ, List, ◌++◌, Option, None, Ok}
use Rattle.text_base.specs.Lines.{Read, new_read, read_on}
use Rattle.text_base.specs.declared.lines.TextFault.{TextFault}
use Rattle.script_text.specs.Drafts.{start, script_next}
use Rattle.script_text.specs.declared.draft.Draft.{Draft}

-- what the whole lines say, how many octets they have, the octets behind the last LF, and the fault
pub record Reading : Type 0 where
  pub said : Draft
  pub at : ℕ
  pub rest : List ℕ
  pub fault : Option TextFault

abbrev pub read_so_far : Reading → Read Draft
read_so_far r = record { said = r.said; at = r.at; rest = r.rest }

-- these octets were fed to the reader, and it told no fault
abbrev pub HasRead : List ℕ → Reading → Type 0
HasRead fed r = (r.fault ≡ None) × (read_on script_next (new_read start) fed ≡ Ok (read_so_far r))

-- the reader read on in a piece
abbrev pub Reads : List ℕ → Reading → Reading → Type 0
Reads piece old new = (fed : List ℕ) → HasRead fed old → HasRead (fed ++ piece) new
