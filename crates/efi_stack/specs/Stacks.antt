-- The stack as contracts see it: what each call answers, and what it leaves.
use Rattle.std.specs.Prelude.{◌≡◌, ℕ, ◌+◌, ◌-◌, ◌^◌, Bool, ◌||◌, nat_le, Option, Some, None}
use Rattle.efi_base.specs.declared.plain.Mac.{Mac}
use Rattle.efi_base.specs.declared.tokens.TokenId.{TokenId}
use Rattle.efi_base.specs.declared.tokens.Owner.{Owner}
use Rattle.efi_base.specs.declared.refuse.Refuse.{Refuse}
use Rattle.efi_base.specs.declared.refuse.Refuse.TheVariants.{Exhausted}
use Rattle.efi_base.specs.Refusals.{first_of, refuse_if}
use Rattle.efi_book.specs.Books.{times}
use Rattle.efi_book.specs.Cores.{is_busy, destroyed, drive_token_cancelled, drive_token_refusal}
use Rattle.efi_book.specs.Families as families
use Rattle.drv_snp.specs.Devices.{Device, is_initialized, new_device}
use Rattle.drv_mnp.specs.Mnps.{MnpState, new_state}
use Rattle.drv_mnp.specs.Mnps as mnps
use Rattle.drv_arp.specs.Arps.{ArpState, started}
use Rattle.drv_arp.specs.Arps as arps
use Rattle.efi_stack.specs.Answering.{AnswersAs, IsPosted, after_ok}
use Rattle.efi_stack.specs.OnSnp.{after_snp, snp_refusal}
use Rattle.efi_stack.specs.OnMnp as on_mnp
use Rattle.efi_stack.specs.OnArp.{ArpAccepts, after_arp, arp_refusal}
use Rattle.efi_stack.specs.OnArp as on_arp
use Rattle.efi_stack.specs.declared.any.Layer.{Layer}
use Rattle.efi_stack.specs.declared.any.Layer.TheVariants as layer
use Rattle.efi_stack.specs.declared.any.AnyHandle.{AnyHandle}
use Rattle.efi_stack.specs.declared.any.AnyHandle.TheVariants as handle
use Rattle.efi_stack.specs.declared.any.AnyCfg.{AnyCfg}
use Rattle.efi_stack.specs.declared.any.AnyWork.{AnyWork}
use Rattle.efi_stack.specs.declared.any.Call.{Call}
use Rattle.efi_stack.specs.declared.any.Call.TheVariants.{Snp, Create, Destroy, Configure, Cancel, Post, Arp}
use Rattle.efi_stack.specs.declared.any.Answer.{Answer}
use Rattle.efi_stack.specs.declared.any.Answer.TheVariants.{Done, Posted}
use Rattle.efi_stack.specs.declared.stack.Stack.{Stack}

abbrev pub new_stack : Mac → Stack
new_stack mac = record { snp = new_device mac; mnp = new_state mac 258; arp = started 258 mac; next = 1 }

abbrev pub with_snp : Stack → Device → Stack
with_snp s d = record { snp = d; mnp = s.mnp; arp = s.arp; next = s.next }

abbrev pub with_mnp : Stack → MnpState → Stack
with_mnp s d = record { snp = s.snp; mnp = d; arp = s.arp; next = s.next }

abbrev pub with_arp : Stack → ArpState → Stack
with_arp s d = record { snp = s.snp; mnp = s.mnp; arp = d; next = s.next }

-- the device is initialized
abbrev pub is_on : Stack → Bool
is_on s = is_initialized s.snp.state

-- a caller's child is configured
abbrev pub is_used : Stack → Bool
is_used s = is_busy s.mnp.drive || is_busy s.arp.drive

-- the last tick
abbrev pub moment_of : Stack → ℕ
moment_of s = s.arp.moment.0

-- how many tokens of this owner are here, pending or ended and not taken
abbrev pub owned : Owner → Stack → ℕ
owned o s = times o s.mnp.drive.tokens + times o s.arp.drive.tokens

abbrev pub Holds : Stack → Stack → Type 0
Holds before after = (o : Owner) → owned o after ≡ owned o before

abbrev pub create_refusal : Stack → Layer → Option Refuse
create_refusal s layer.Mnp = families.create_refusal s.mnp.drive.family
create_refusal s layer.Arp = families.create_refusal s.arp.drive.family

abbrev pub IsMade : Stack → Layer → Answer → Type 0
IsMade s layer.Mnp a = on_mnp.IsMade s.mnp a
IsMade s layer.Arp a = on_arp.IsMade s.arp a

abbrev pub after_create : Stack → Layer → Answer → Stack
after_create s layer.Mnp a = with_mnp s (on_mnp.after_create s.mnp a)
after_create s layer.Arp a = with_arp s (on_arp.after_create s.arp a)

abbrev pub destroy_refusal : Stack → AnyHandle → Option Refuse
destroy_refusal s (handle.Mnp h) = families.handle_refusal s.mnp.drive.family h.key h.serial
destroy_refusal s (handle.Arp h) = families.handle_refusal s.arp.drive.family h.key h.serial

abbrev pub after_destroy : Stack → AnyHandle → Answer → Stack
after_destroy s (handle.Mnp h) a = with_mnp s (after_ok a s.mnp (mnps.in_drive s.mnp (destroyed s.mnp.drive h.key h.serial)))
after_destroy s (handle.Arp h) a = with_arp s (after_ok a s.arp (arps.in_drive s.arp (destroyed s.arp.drive h.key h.serial)))

abbrev pub configure_refusal : Stack → AnyHandle → Option AnyCfg → Option Refuse
configure_refusal s (handle.Mnp h) c = on_mnp.configure_refusal_of s.mnp (is_on s) h.key h.serial c
configure_refusal s (handle.Arp h) c = on_arp.configure_refusal_of s.arp (is_on s) h.key h.serial c

abbrev pub after_configure : Stack → AnyHandle → Option AnyCfg → Answer → Stack
after_configure s (handle.Mnp h) c a = with_mnp s (after_ok a s.mnp (on_mnp.after_configure s.mnp h.key h.serial c))
after_configure s (handle.Arp h) c a = with_arp s (after_ok a s.arp (on_arp.after_configure s.arp h.key h.serial c))

abbrev pub cancel_refusal : Stack → AnyHandle → Option TokenId → Option Refuse
cancel_refusal s (handle.Mnp h) t = drive_token_refusal s.mnp.drive h.key h.serial t
cancel_refusal s (handle.Arp h) t = drive_token_refusal s.arp.drive h.key h.serial t

abbrev pub after_cancel : Stack → AnyHandle → Option TokenId → Answer → Stack
after_cancel s (handle.Mnp h) t a = with_mnp s (after_ok a s.mnp (mnps.in_drive s.mnp (drive_token_cancelled s.mnp.drive h.serial t)))
after_cancel s (handle.Arp h) t a = with_arp s (after_ok a s.arp (arps.in_drive s.arp (drive_token_cancelled s.arp.drive h.serial t)))

-- why its driver refuses a token
abbrev pub post_refusal_on : Stack → AnyHandle → TokenId → AnyWork → Option Refuse
post_refusal_on s (handle.Mnp h) token w = on_mnp.post_refusal_of s.mnp h.key h.serial token w
post_refusal_on s (handle.Arp h) token w = on_arp.post_refusal_of s.arp h.key h.serial token w

abbrev pub after_post_on : Stack → AnyHandle → TokenId → AnyWork → Answer → Stack
after_post_on s (handle.Mnp h) token w a = with_mnp s (on_mnp.after_post s.mnp h.key h.serial token w a)
after_post_on s (handle.Arp h) token w a = with_arp s (on_arp.after_post s.arp h.key h.serial token w a)

-- the number of the next token
abbrev pub next_of : Stack → TokenId
next_of s = record { 0 = s.next }

abbrev pub counted : Answer → Stack → Stack
counted (Posted t) s = record { snp = s.snp; mnp = s.mnp; arp = s.arp; next = s.next + 1 }
counted a s = s

-- why a call is refused, but for want of memory
abbrev pub refusal : Stack → Call → Option Refuse
refusal s (Snp c) = snp_refusal s.snp (is_used s) c
refusal s (Create l) = create_refusal s l
refusal s (Destroy h) = destroy_refusal s h
refusal s (Configure h c) = configure_refusal s h c
refusal s (Cancel h t) = cancel_refusal s h t
refusal s (Post h w) = first_of (post_refusal_on s h (next_of s) w) (refuse_if (nat_le (2 ^ 64 - 1) s.next) Exhausted)
refusal s (Arp c) = arp_refusal s.arp c

-- the work that a refusal hands back
abbrev pub work_of : Call → Option AnyWork
work_of (Post h w) = Some w
work_of c = None

-- how a call may be answered that nothing refuses
abbrev pub Accepts : Stack → Call → Answer → Type 0
Accepts s (Create l) a = IsMade s l a
Accepts s (Post h w) a = IsPosted (next_of s) w a
Accepts s (Arp c) a = ArpAccepts s.arp c a
Accepts s c a = a ≡ Done

-- the first refusal whose condition holds, with the work; else what is accepted
abbrev pub Answers : Stack → Call → Answer → Type 0
Answers s c a = AnswersAs (refusal s c) (work_of c) (Accepts s c a) a

-- what a call with this answer leaves
abbrev pub after : Stack → Call → Answer → Stack
after s (Snp c) a = with_snp s (after_ok a s.snp (after_snp s.snp c))
after s (Create l) a = after_create s l a
after s (Destroy h) a = after_destroy s h a
after s (Configure h c) a = after_configure s h c a
after s (Cancel h t) a = after_cancel s h t a
after s (Post h w) a = counted a (after_post_on s h (next_of s) w a)
after s (Arp c) a = with_arp s (after_arp s.arp c a)
