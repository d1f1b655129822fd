-- The command `script`: it runs a script over the stack and writes the whole trace, where each step is for a protocol that is
-- built.
use Rattle.std.specs.Prelude.{◌≡◌, ◌⊎◌, ℕ, Bool, true, false, List, []}
use Rattle.std.specs.List.{list_all}
use Rattle.script_text.specs.declared.script.Script.{Script}
use Rattle.script_text.specs.Scripts.{script_of}
use Rattle.script_run.specs.Scope.{is_built}
use Rattle.script_run.specs.Running.{IsTrace}
use Rattle.boot_top.specs.Running.{Command}
use Rattle.boot_top.specs.Texts.{following}

-- each step is for a protocol that is built
abbrev pub is_whole_built : Script → Bool
is_whole_built script = list_all is_built script.steps

-- with this status, this is written for a script
abbrev pub SaysTrace : Script → ℕ → List ℕ → Type 0
SaysTrace script status text =
    ((status ≡ 0) × (is_whole_built script ≡ true) × IsTrace script text)
    ⊎ ((status ≡ 8) × (is_whole_built script ≡ false) × (text ≡ []))

-- whether all is built decides the status
abbrev pub DecidesTrace : Script → ℕ → Type 0
DecidesTrace script status = ((status ≡ 0) × (is_whole_built script ≡ true)) ⊎ ((status ≡ 8) × (is_whole_built script ≡ false))

abbrev pub scripting : Command
scripting = following script_of SaysTrace DecidesTrace
