-- Calls on MNP as callers make them.
use Rattle.std.specs.Prelude.{◌≡◌, ℕ, Bool, not, Option, Some, None}
use Rattle.efi_base.specs.declared.tokens.TokenId.{TokenId}
use Rattle.efi_base.specs.declared.tokens.Owner.TheVariants.{User}
use Rattle.efi_base.specs.declared.refuse.Refuse.{Refuse}
use Rattle.efi_base.specs.declared.refuse.Refuse.TheVariants.{BadHandle, NotStarted}
use Rattle.efi_base.specs.Refusals.{first_of, refuse_if}
use Rattle.efi_book.specs.declared.ends.Done.{Done}
use Rattle.efi_book.specs.Families.{handle_refusal}
use Rattle.efi_book.specs.Cores.{made, configured, configure_refusal}
use Rattle.drv_mnp.specs.declared.work.MnpWork.{MnpWork}
use Rattle.drv_mnp.specs.Mnps.{MnpState, in_drive, post_refusal, token_posted}
use Rattle.efi_stack.specs.declared.any.AnyHandle.TheVariants as handle
use Rattle.efi_stack.specs.declared.any.AnyCfg.{AnyCfg}
use Rattle.efi_stack.specs.declared.any.AnyCfg.TheVariants as cfg
use Rattle.efi_stack.specs.declared.any.AnyWork.{AnyWork}
use Rattle.efi_stack.specs.declared.any.AnyWork.TheVariants as work
use Rattle.efi_stack.specs.declared.any.Answer.{Answer}
use Rattle.efi_stack.specs.declared.any.Answer.TheVariants.{Made, Posted}
use Rattle.efi_stack.specs.declared.any.Fired.{Fired}

-- a child was made: its serial is the next one
abbrev pub IsMade : MnpState → Answer → Type 0
IsMade d (Made (handle.Mnp h)) = h.serial ≡ d.drive.family.next
IsMade d a = ⊥

abbrev pub after_create : MnpState → Answer → MnpState
after_create d (Made (handle.Mnp h)) = in_drive d (made d.drive h.key)
after_create d a = d

abbrev pub state_refusal : MnpState → Bool → ℕ → ℕ → Option Refuse
state_refusal d on key serial = first_of (handle_refusal d.drive.family key serial) (refuse_if (not on) NotStarted)

-- a child gets a configuration only where the device is initialized; one of another protocol is no child's
abbrev pub configure_refusal_of : MnpState → Bool → ℕ → ℕ → Option AnyCfg → Option Refuse
configure_refusal_of d on key serial None = configure_refusal d.drive key serial None
configure_refusal_of d on key serial (Some (cfg.Mnp c)) =
    first_of (state_refusal d on key serial) (configure_refusal d.drive key serial (Some c))
configure_refusal_of d on key serial (Some (cfg.Arp c)) = Some BadHandle

abbrev pub after_configure : MnpState → ℕ → ℕ → Option AnyCfg → MnpState
after_configure d key serial None = in_drive d (configured d.drive key serial None)
after_configure d key serial (Some (cfg.Mnp c)) = in_drive d (configured d.drive key serial (Some c))
after_configure d key serial (Some (cfg.Arp c)) = d

abbrev pub post_refusal_of : MnpState → ℕ → ℕ → TokenId → AnyWork → Option Refuse
post_refusal_of d key serial token (work.Mnp w) = post_refusal d key serial (User token) w
post_refusal_of d key serial token (work.Arp w) = Some BadHandle

abbrev pub posted_of : MnpState → ℕ → ℕ → TokenId → AnyWork → MnpState
posted_of d key serial token (work.Mnp w) = token_posted d serial (User token) w
posted_of d key serial token (work.Arp w) = d

abbrev pub after_post : MnpState → ℕ → ℕ → TokenId → AnyWork → Answer → MnpState
after_post d key serial token w (Posted t) = posted_of d key serial token w
after_post d key serial token w a = d

-- a token that has ended, as its caller gets it
abbrev pub fired : Done MnpWork → Fired
fired d = record { token = d.token; end = d.end; work = work.Mnp d.work }
