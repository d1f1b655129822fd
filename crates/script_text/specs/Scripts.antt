-- What a whole script says.
use Rattle.std.specs.Prelude.{ℕ, List, [], ◌∷◌, Result, Ok}
use Rattle.std.specs.Option.{unwrap_or}
use Rattle.text_base.specs.Lines.{text_of, on_ok}
use Rattle.script_text.specs.Drafts.{start, script_next, is_ended}
use Rattle.script_text.specs.declared.draft.Draft.{Draft}
use Rattle.script_text.specs.declared.script.Script.{Script}

-- the station is 02:00:00:00:00:01, and its number 1, where they aren't told
unfoldable pub script_from : Draft → Script
script_from d = record {
  mac = unwrap_or d.mac (record { 0 = 2 ∷ 0 ∷ 0 ∷ 0 ∷ 0 ∷ 1 ∷ [] });
  seed = unwrap_or d.seed 1;
  steps = d.steps;
}

-- what a script says, or the first octet of its first bad line
abbrev pub script_of : List ℕ → Result Script ℕ
script_of text = on_ok (text_of script_next is_ended start text) (λ d. Ok (script_from d))
