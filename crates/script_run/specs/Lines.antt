-- Lines that tell what came of an event.
use Rattle.std.specs.Prelude.{ℕ, ◌+◌, List, [], ◌∷◌, ◌++◌, length, Option, Some, None}
use Rattle.efi_base.specs.declared.plain.Mac.{Mac}
use Rattle.efi_base.specs.declared.tokens.End.{End}
use Rattle.efi_base.specs.declared.tokens.End.TheVariants.{Success}
use Rattle.efi_link.specs.declared.tape.Try.{Try}
use Rattle.drv_mnp.specs.declared.work.MnpWork.{MnpWork}
use Rattle.drv_mnp.specs.declared.work.MnpWork.TheVariants.{Transmit, Receive}
use Rattle.efi_stack.specs.declared.any.AnyHandle.{AnyHandle}
use Rattle.efi_stack.specs.declared.any.AnyWork.{AnyWork}
use Rattle.efi_stack.specs.declared.any.AnyWork.TheVariants as work
use Rattle.efi_stack.specs.declared.any.Answer.{Answer}
use Rattle.efi_stack.specs.declared.any.Answer.TheVariants.{Done, Found, Made, Posted, Refused}
use Rattle.efi_stack.specs.declared.any.Fired.{Fired}
use Rattle.doc_text.specs.declared.trace.TraceUnit.{TraceUnit}
use Rattle.doc_text.specs.declared.trace.TraceUnit.TheVariants as unit
use Rattle.doc_text.specs.declared.trace.TraceEnd.{TraceEnd}
use Rattle.doc_text.specs.declared.trace.TraceEnd.TheVariants as end
use Rattle.doc_text.specs.declared.trace.TraceLine.{TraceLine}
use Rattle.doc_text.specs.declared.trace.TraceLine.TheVariants as line

-- the children that were given, each under its number from 1 on
abbrev pub given_after : List AnyHandle → Answer → List AnyHandle
given_after given (Made h) = given ++ h ∷ []
given_after given a = given

abbrev pub line_of : List AnyHandle → Answer → TraceLine
line_of given Done = line.Done
line_of given (Found mac) = line.Found mac
line_of given (Made h) = line.Handle (length given + 1)
line_of given (Posted t) = line.Token t.0
line_of given (Refused why w) = line.Refused why

abbrev pub mac_unit : Option Mac → TraceUnit
mac_unit None = unit.Nothing
mac_unit (Some mac) = unit.Mac mac

abbrev pub frame_unit : MnpWork → TraceUnit
frame_unit (Receive (Some frame)) = unit.Octets frame
frame_unit (Receive None) = unit.Nothing
frame_unit (Transmit tx) = unit.Nothing

-- what came of a work that ended well: the frame that was received, or the Ethernet address
abbrev pub unit_of : AnyWork → TraceUnit
unit_of (work.Mnp w) = frame_unit w
unit_of (work.Arp w) = mac_unit w.mac

abbrev pub end_of : End → AnyWork → TraceEnd
end_of Success w = end.Success (unit_of w)
end_of other w = end.Failed other

abbrev pub fired_line : Fired → TraceLine
fired_line f = line.Fired f.token.0 (end_of f.end f.work)

abbrev pub sent_line : Try → TraceLine
sent_line t = line.Sent t.frame
