-- The lines of a trace, each ended by LF.
use Rattle.std.specs.Prelude.{ℕ, ◌==◌, List, ◌++◌, length, codes, decimal, if◌then◌else◌}
use Rattle.text_base.specs.Hex.{hex_text}
use Rattle.text_base.specs.Addresses.{dotted, mac_text}
use Rattle.doc_text.specs.declared.trace.TraceUnit.{TraceUnit}
use Rattle.doc_text.specs.declared.trace.TraceUnit.TheVariants as unit
use Rattle.doc_text.specs.declared.trace.TraceEnd.{TraceEnd}
use Rattle.doc_text.specs.declared.trace.TraceEnd.TheVariants.{Success, Failed}
use Rattle.doc_text.specs.declared.trace.TraceLine.{TraceLine}
use Rattle.doc_text.specs.declared.trace.TraceLine.TheVariants as line
use Rattle.doc_text.specs.Ends.{numbered}
use Rattle.doc_text.specs.Reports.{ended}
use Rattle.doc_text.specs.TraceWords.{end_word, refuse_word}

-- octets in hexadecimal digits, `-` where there are none
abbrev pub hex_word : List ℕ → List ℕ
hex_word octets = if length octets == 0 then codes "-" else hex_text octets

-- what came of a token that ended well
abbrev pub unit_text : TraceUnit → List ℕ
unit_text unit.Nothing = codes "-"
unit_text (unit.Octets octets) = hex_word octets
unit_text (unit.FromAddress source octets) = dotted source.0 ++ (codes " " ++ hex_word octets)
unit_text (unit.FromPort source octets) = dotted source.addr.0 ++ (codes " " ++ (decimal source.port ++ (codes " " ++ hex_word octets)))
unit_text (unit.Mac mac) = mac_text mac
unit_text (unit.Address address) = dotted address.0
unit_text (unit.Name name) = name
unit_text (unit.Accepted token) = codes "a" ++ decimal token
unit_text (unit.Number n) = decimal n
unit_text (unit.Response status octets) = decimal status ++ (codes " " ++ hex_word octets)

abbrev pub end_words : TraceEnd → List ℕ
end_words (Success unit) = codes "success " ++ unit_text unit
end_words (Failed end) = end_word end

-- a line without its end
abbrev pub trace_words : TraceLine → List ℕ
trace_words line.First = codes "efitrace 1"
trace_words line.Done = codes "done"
trace_words (line.Found mac) = codes "found " ++ mac_text mac
trace_words (line.Handle n) = numbered (codes "handle") n
trace_words (line.Token n) = numbered (codes "token") n
trace_words (line.Refused why) = codes "refused " ++ refuse_word why
trace_words (line.Tick n) = numbered (codes "tick") n
trace_words line.Heard = codes "heard"
trace_words (line.Fired token end) = codes "fired " ++ (decimal token ++ (codes " " ++ end_words end))
trace_words (line.Sent frame) = codes "sent " ++ hex_word frame
trace_words line.Last = codes "end"

abbrev pub trace_line_text : TraceLine → List ℕ
trace_line_text line = ended (trace_words line)
