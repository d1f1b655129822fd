-- The run of a script: each step is one event of the stack, and each event has its lines.
use Rattle.std.specs.Prelude.{◌≡◌, ℕ, ◌&&◌, ◌^◌, nat_le, List, [], ◌∷◌, ◌++◌, map, Option, Some, None, if◌then◌else◌}
use Rattle.efi_base.specs.declared.refuse.Refuse.TheVariants.{BadHandle}
use Rattle.efi_link.specs.Wires.{Wire}
use Rattle.efi_link.specs.declared.tape.Try.{Try}
use Rattle.efi_book.specs.Books.{Tokens}
use Rattle.efi_book.specs.Cores.{in_tokens}
use Rattle.drv_mnp.specs.Mnps as mnps
use Rattle.drv_arp.specs.Arps as arps
use Rattle.efi_stack.specs.OnMnp as on_mnp
use Rattle.efi_stack.specs.OnArp as on_arp
use Rattle.efi_stack.specs.Stacks.{Answers, after, moment_of, new_stack, with_mnp, with_arp}
use Rattle.efi_stack.specs.Events.{heard, ticked}
use Rattle.efi_stack.specs.Sends.{IsPolled}
use Rattle.efi_stack.specs.declared.any.AnyHandle.{AnyHandle}
use Rattle.efi_stack.specs.declared.any.Answer.{Answer}
use Rattle.efi_stack.specs.declared.any.Call.{Call}
use Rattle.efi_stack.specs.declared.stack.Stack.{Stack}
use Rattle.script_text.specs.declared.step.Step.{Step}
use Rattle.script_text.specs.declared.step.Step.TheVariants as step
use Rattle.script_text.specs.declared.script.Script.{Script}
use Rattle.doc_text.specs.declared.trace.TraceLine.{TraceLine}
use Rattle.doc_text.specs.declared.trace.TraceLine.TheVariants as line
use Rattle.doc_text.specs.Traces.{trace_line_text}
use Rattle.script_run.specs.Calls.{call_of}
use Rattle.script_run.specs.Lines.{fired_line, given_after, line_of, sent_line}

-- the moments of a script never fall, and none is past the clock's last
abbrev pub moved : Stack → ℕ → Stack
moved s now = if nat_le (moment_of s) now && nat_le now (2 ^ 62) then ticked s now else s

-- a call of a child that wasn't given is refused for its handle
abbrev pub IsCalled : Option Call → List AnyHandle → Stack → TraceLine → List AnyHandle → Stack → Type 0
IsCalled None given s told now later = (told ≡ line.Refused BadHandle) × (now ≡ given) × (later ≡ s)
IsCalled (Some c) given s told now later =
    (a : Answer) × Answers s c a × (later ≡ after s c a) × (told ≡ line_of given a) × (now ≡ given_after given a)

-- the step itself, with its line
abbrev pub IsFirst : List AnyHandle → Stack → Step → TraceLine → List AnyHandle → Stack → Type 0
IsFirst given s (step.Tick now) told later_given later = (told ≡ line.Tick now.0) × (later_given ≡ given) × (later ≡ moved s now.0)
IsFirst given s (step.Frame frame) told later_given later = (told ≡ line.Heard) × (later_given ≡ given) × (later ≡ heard s frame)
IsFirst given s other told later_given later = IsCalled (call_of given other) given s told later_given later

-- the tokens that ended, those of lower drivers first
abbrev pub fired_lines : Stack → List TraceLine
fired_lines s =
    map (λ d. fired_line (on_mnp.fired d)) s.mnp.drive.tokens.done
    ++ map (λ d. fired_line (on_arp.fired (arps.done_of d))) s.arp.drive.tokens.done

abbrev pub none_done : {W : Type 0} → Tokens W → Tokens W
none_done t = record { pending = t.pending; done = []; ups = t.ups; next = t.next; spare = t.spare }

-- they were taken
abbrev pub settled : Stack → Stack
settled s =
    with_arp (with_mnp s (mnps.in_drive s.mnp (in_tokens s.mnp.drive (none_done s.mnp.drive.tokens))))
    (arps.in_drive s.arp (in_tokens s.arp.drive (none_done s.arp.drive.tokens)))

-- a link that was given no frame yet
abbrev pub fresh : Wire
fresh = record { tries = Some []; given = Some []; due = Some []; moment = 0; faults = 0 }

-- what the event left was sent; the lines of the tokens that ended by it, and of the frames
pub record IsSentOff (s later : Stack) (front : List TraceLine) : Type 0 where
  pub sent : Stack
  pub wire : Wire
  pub tries : List Try
  pub tried : ℕ
  pub polled : IsPolled s sent fresh wire tried
  pub told : wire.tries ≡ Some tries
  pub left : later ≡ settled sent
  pub lines : front ≡ fired_lines sent ++ map sent_line tries

-- a whole event with its lines: the step's own, those of the tokens that ended, and those of what was sent
pub record IsEvent (given : List AnyHandle) (s : Stack) (this : Step) (now : List AnyHandle) (later : Stack) (front : List TraceLine) : Type 0 where
  pub told : TraceLine
  pub mid : Stack
  pub rest : List TraceLine
  pub first : IsFirst given s this told now mid
  pub sent : IsSentOff (settled mid) later rest
  pub lines : front ≡ told ∷ (fired_lines mid ++ rest)

-- behind the lines so far stand these
abbrev pub HasFirst : List AnyHandle → Stack → Step → List AnyHandle → Stack → List TraceLine → List TraceLine → Type 0
HasFirst given s this now later before after_it =
    (told : TraceLine) × IsFirst given s this told now later × (after_it ≡ before ++ told ∷ [])

abbrev pub HasSentOff : Stack → Stack → List TraceLine → List TraceLine → Type 0
HasSentOff s later before after_it = (front : List TraceLine) × IsSentOff s later front × (after_it ≡ before ++ front)

abbrev pub HasEvent : List AnyHandle → Stack → Step → List AnyHandle → Stack → List TraceLine → List TraceLine → Type 0
HasEvent given s this now later before after_it =
    (front : List TraceLine) × IsEvent given s this now later front × (after_it ≡ before ++ front)

-- the lines of these steps, one after another
abbrev pub RunsTo : List AnyHandle → Stack → List Step → List TraceLine → Type 0
RunsTo given s [] lines = lines ≡ []
RunsTo given s (this ∷ steps) lines =
    (now : List AnyHandle) × (later : Stack) × (front : List TraceLine) × (rest : List TraceLine)
    × IsEvent given s this now later front × RunsTo now later steps rest × (lines ≡ front ++ rest)

abbrev pub HasRun : List AnyHandle → Stack → List Step → List TraceLine → List TraceLine → Type 0
HasRun given s steps before after_it = (rest : List TraceLine) × RunsTo given s steps rest × (after_it ≡ before ++ rest)

abbrev pub text_of : List TraceLine → List ℕ
text_of [] = []
text_of (l ∷ lines) = trace_line_text l ++ text_of lines

-- a trace of a script
abbrev pub IsTrace : Script → List ℕ → Type 0
IsTrace script text =
    (lines : List TraceLine) × RunsTo [] (new_stack script.mac) script.steps lines × (text ≡ text_of (line.First ∷ (lines ++ line.Last ∷ [])))
