-- A reader by its fields.
use Rattle.std.specs.Prelude.{◌+◌, ◌<◌, ◌^◌, length}
use Rattle.text_base.specs.Lines.{IsPart}
use Rattle.script_text.specs.Reading.{Reading}
use Rattle.script_text.specs.declared.reader.ScriptReader.TheInside.{Inside}

abbrev pub reading_of : Inside → Reading
reading_of a = record { said = a.said; at = a.at; rest = a.kept.items; fault = a.fault }

-- it keeps less than a line, whose end a place can tell
pub record IsSound (a : Inside) : Type 0 where
  pub part : IsPart a.kept.items
  pub fits : a.at + length a.kept.items < 2 ^ 64
