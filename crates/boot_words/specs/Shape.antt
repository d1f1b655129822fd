-- The command line as the crate that reads it sees it: one positional word and five options of one value, without flags
-- for help and version.
use Rattle.std.specs.Prelude.{Some, true, codes}
use Rattle.clap.specs.Words.{App, Rule, Text, new_app, new_rule, with_rule}
use Rattle.clap.specs.Simple.{on_top}

-- the program, before its arguments
abbrev pub bare : App
bare =
    on_top
    (λ s. record s { no_binary_name = true; disable_help_flag = true; disable_version_flag = true })
    (new_app (codes "efiboot"))

-- the positional word
abbrev pub command_rule : Rule
command_rule = record (new_rule (codes "command")) { required = true }

-- an option that is named as its value's id
abbrev pub option_rule : Text → Rule
option_rule name = record (new_rule name) { long = Some name }

abbrev pub with_option : App → Text → App
with_option app name = with_rule app (option_rule name)

abbrev pub program : App
program =
    with_option (with_option (with_option (with_option (with_option (with_rule bare command_rule) (codes "emit")) (codes "capture"))
    (codes "buffer"))
    (codes "seed"))
    (codes "mac")
