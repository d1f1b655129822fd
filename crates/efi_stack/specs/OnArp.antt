-- Calls on ARP as callers make them.
use Rattle.std.specs.Prelude.{◌≡◌, ⊤, ℕ, Bool, not, Option, Some, None}
use Rattle.efi_base.specs.declared.tokens.TokenId.{TokenId}
use Rattle.efi_base.specs.declared.tokens.Owner.TheVariants.{User}
use Rattle.efi_base.specs.declared.refuse.Refuse.{Refuse}
use Rattle.efi_base.specs.declared.refuse.Refuse.TheVariants.{BadHandle, NotStarted, OutOfResources}
use Rattle.efi_base.specs.Refusals.{first_of, refuse_if}
use Rattle.efi_book.specs.declared.ends.Done.{Done}
use Rattle.efi_book.specs.Families.{handle_refusal}
use Rattle.efi_book.specs.Cores.{made, configured, post_refusal}
use Rattle.drv_arp.specs.declared.asks.ArpWork.{ArpWork}
use Rattle.drv_arp.specs.Arps.{ArpState, in_drive, arp_configure_refusal, arp_posted, find_refusal, arp_add_refusal, arp_delete_refusal, arp_flush_refusal, added, deleted, flushed, known_mac}
use Rattle.efi_stack.specs.Answering.{AnswersAs, after_ok}
use Rattle.efi_stack.specs.declared.any.AnyHandle.TheVariants as handle
use Rattle.efi_stack.specs.declared.any.AnyCfg.{AnyCfg}
use Rattle.efi_stack.specs.declared.any.AnyCfg.TheVariants as cfg
use Rattle.efi_stack.specs.declared.any.AnyWork.{AnyWork}
use Rattle.efi_stack.specs.declared.any.AnyWork.TheVariants as work
use Rattle.efi_stack.specs.declared.any.Answer.{Answer}
use Rattle.efi_stack.specs.declared.any.Answer.TheVariants.{Done as done, Found, Made, Posted, Refused}
use Rattle.efi_stack.specs.declared.any.Fired.{Fired}
use Rattle.efi_stack.specs.declared.any.ArpCall.{ArpCall}
use Rattle.efi_stack.specs.declared.any.ArpCall.TheVariants.{Add, Find, Delete, Flush}

-- a child was made: its serial is the next one
abbrev pub IsMade : ArpState → Answer → Type 0
IsMade d (Made (handle.Arp h)) = h.serial ≡ d.drive.family.next
IsMade d a = ⊥

abbrev pub after_create : ArpState → Answer → ArpState
after_create d (Made (handle.Arp h)) = in_drive d (made d.drive h.key)
after_create d a = d

abbrev pub state_refusal : ArpState → Bool → ℕ → ℕ → Option Refuse
state_refusal d on key serial = first_of (handle_refusal d.drive.family key serial) (refuse_if (not on) NotStarted)

-- a child gets a configuration only where the device is initialized; one of another protocol is no child's
abbrev pub configure_refusal_of : ArpState → Bool → ℕ → ℕ → Option AnyCfg → Option Refuse
configure_refusal_of d on key serial None = arp_configure_refusal d key serial None
configure_refusal_of d on key serial (Some (cfg.Arp c)) =
    first_of (state_refusal d on key serial) (arp_configure_refusal d key serial (Some c))
configure_refusal_of d on key serial (Some (cfg.Mnp c)) = Some BadHandle

abbrev pub after_configure : ArpState → ℕ → ℕ → Option AnyCfg → ArpState
after_configure d key serial None = in_drive d (configured d.drive key serial None)
after_configure d key serial (Some (cfg.Arp c)) = in_drive d (configured d.drive key serial (Some c))
after_configure d key serial (Some (cfg.Mnp c)) = d

abbrev pub post_refusal_of : ArpState → ℕ → ℕ → TokenId → AnyWork → Option Refuse
post_refusal_of d key serial token (work.Arp w) = post_refusal d.drive key serial (User token)
post_refusal_of d key serial token (work.Mnp w) = Some BadHandle

abbrev pub posted_of : ArpState → ℕ → ℕ → TokenId → AnyWork → ArpState
posted_of d key serial token (work.Arp w) = arp_posted d key serial (User token) w
posted_of d key serial token (work.Mnp w) = d

abbrev pub after_post : ArpState → ℕ → ℕ → TokenId → AnyWork → Answer → ArpState
after_post d key serial token w (Posted t) = posted_of d key serial token w
after_post d key serial token w a = d

-- a token that has ended, as its caller gets it
abbrev pub fired : Done ArpWork → Fired
fired d = record { token = d.token; end = d.end; work = work.Arp d.work }

-- why a call on the cache is refused, but for want of memory
abbrev pub arp_refusal : ArpState → ArpCall → Option Refuse
arp_refusal d (Add h ip mac fixed over) = arp_add_refusal d h.key h.serial ip.0 over
arp_refusal d (Find h ip) = find_refusal d h.key h.serial ip.0
arp_refusal d (Delete h ip) = arp_delete_refusal d h.key h.serial ip.0
arp_refusal d (Flush h) = arp_flush_refusal d h.key h.serial

-- there was memory for what an entry ends, or there was none
abbrev pub IsAdded : Answer → Type 0
IsAdded done = ⊤
IsAdded (Refused OutOfResources None) = ⊤
IsAdded a = ⊥

-- the Ethernet address of this address
abbrev pub IsFound : ArpState → ℕ → Answer → Type 0
IsFound d ip (Found mac) = known_mac d ip ≡ Some mac
IsFound d ip a = ⊥

abbrev pub ArpAccepts : ArpState → ArpCall → Answer → Type 0
ArpAccepts d (Add h ip mac fixed over) a = IsAdded a
ArpAccepts d (Find h ip) a = IsFound d ip.0 a
ArpAccepts d (Delete h ip) a = a ≡ done
ArpAccepts d (Flush h) a = a ≡ done

abbrev pub ArpAnswers : ArpState → ArpCall → Answer → Type 0
ArpAnswers d c a = AnswersAs (arp_refusal d c) None (ArpAccepts d c a) a

abbrev pub after_arp : ArpState → ArpCall → Answer → ArpState
after_arp d (Add h ip mac fixed over) a = after_ok a d (added d h.key h.serial ip mac fixed)
after_arp d (Find h ip) a = d
after_arp d (Delete h ip) a = after_ok a d (deleted d ip.0)
after_arp d (Flush h) a = after_ok a d (flushed d)
