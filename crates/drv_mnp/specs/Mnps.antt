-- The driver as contracts see it, and what its calls answer and leave.
use Rattle.std.specs.Prelude.{ℕ, List, Option, Some, None, Bool, true, false, is_none, if◌then◌else◌}
use Rattle.efi_base.specs.declared.plain.Mac.{Mac}
use Rattle.efi_base.specs.declared.tokens.Ticket.{Ticket}
use Rattle.efi_base.specs.declared.tokens.Owner.{Owner}
use Rattle.efi_base.specs.declared.tokens.End.{End}
use Rattle.efi_base.specs.declared.tokens.End.TheVariants.{Success, DeviceError}
use Rattle.efi_base.specs.declared.refuse.Refuse.{Refuse}
use Rattle.efi_base.specs.declared.refuse.Refuse.TheVariants.{BadConfig, NotStarted}
use Rattle.efi_base.specs.declared.refuse.Field.TheVariants.{Length}
use Rattle.efi_base.specs.Refusals.{first_of, refuse_if}
use Rattle.wire_link.specs.Ether.{Frame, frame_of}
use Rattle.efi_book.specs.Families.{handle_refusal}
use Rattle.efi_book.specs.Books.{accept_refusal, completed, work_of}
use Rattle.efi_book.specs.Outboxes.{asked}
use Rattle.efi_book.specs.Cores.{Drive, start, id_of, cfg_of, in_tokens, in_outbox, posted}
use Rattle.drv_mnp.specs.declared.work.MnpCfg.{MnpCfg}
use Rattle.drv_mnp.specs.declared.work.MnpWork.{MnpWork}
use Rattle.drv_mnp.specs.declared.work.MnpWork.TheVariants.{Transmit, Receive}
use Rattle.drv_mnp.specs.declared.work.Framed.{Framed}
use Rattle.drv_mnp.specs.Works.{is_long, is_transmit}
use Rattle.drv_mnp.specs.Frames.{frame_from}
use Rattle.drv_mnp.specs.Hearing.{any_hears, hearers, all_given}

-- children with their configurations, tokens, and frames for the device; and the station's address
pub record MnpState : Type 0 where
  pub drive : Drive MnpCfg MnpWork Framed
  pub mac : Mac

abbrev pub new_state : Mac → ℕ → MnpState
new_state mac own = record { drive = start own; mac = mac }

abbrev pub in_drive : MnpState → Drive MnpCfg MnpWork Framed → MnpState
in_drive s drive = record { drive = drive; mac = s.mac }

-- behind the other frames for the device goes one with this mark
abbrev pub framed : MnpState → List ℕ → ℕ → List ℕ → ℕ → MnpState
framed s dest proto payload mark =
    in_drive s (in_outbox s.drive (asked s.drive.outbox (record { frame = frame_from s.mac.0 dest proto payload; mark = mark })))

-- why a token isn't taken in, but for want of memory
abbrev pub post_refusal : MnpState → ℕ → ℕ → Owner → MnpWork → Option Refuse
post_refusal s key serial owner work =
    first_of
    (handle_refusal s.drive.family key serial)
    (first_of
    (refuse_if (is_none (cfg_of s.drive key serial)) NotStarted)
    (first_of
    (refuse_if (is_long work) (BadConfig Length))
    (accept_refusal s.drive.tokens (id_of serial) owner)))

-- a transmit asks for its frame at once, under its ticket; a receive asks for nothing
abbrev pub demanded : MnpState → ℕ → MnpWork → MnpState
demanded s mark (Transmit tx) = framed s tx.dest.0 tx.proto tx.payload mark
demanded s mark (Receive got) = s

-- one more token
abbrev pub token_posted : MnpState → ℕ → Owner → MnpWork → MnpState
token_posted s serial owner work = demanded (in_drive s (posted s.drive serial owner work)) s.drive.tokens.next work

-- the frame of these octets was heard: the oldest receive token of each child that it is for ends with it. Octets that
-- are no frame change nothing
abbrev pub heard_as : MnpState → List ℕ → Option Frame → MnpState
heard_as s octets None = s
heard_as s octets (Some f) = in_drive s (in_tokens s.drive (all_given octets (hearers s.mac.0 f s.drive.family) s.drive.tokens))

abbrev pub heard : MnpState → List ℕ → MnpState
heard s octets = heard_as s octets (frame_of octets)

-- some child hears the frame
abbrev pub is_heard_as : MnpState → Option Frame → Bool
is_heard_as s None = false
is_heard_as s (Some f) = any_hears s.mac.0 f s.drive.family

abbrev pub is_heard : MnpState → List ℕ → Bool
is_heard s octets = is_heard_as s (frame_of octets)

abbrev pub end_of : Bool → End
end_of true = Success
end_of false = DeviceError

abbrev pub ticket_at : ℕ → Ticket
ticket_at mark = record { 0 = mark }

-- the frame of this mark was handed to the link: the transmit token of this ticket ends, if it is pending
abbrev pub frame_sent : MnpState → ℕ → Bool → MnpState
frame_sent s mark ok =
    if is_transmit (work_of s.drive.tokens (ticket_at mark))
    then in_drive s (in_tokens s.drive (completed s.drive.tokens (ticket_at mark) (end_of ok)))
    else s
