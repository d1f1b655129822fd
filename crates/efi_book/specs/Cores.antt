-- What every driver's calls answer and leave.
use Rattle.std.specs.Prelude.{ℕ, Bool, find, ◌&&◌, is_some, is_none, Option, Some, None}
use Rattle.std.specs.Option.{option_and_then}
use Rattle.efi_base.specs.declared.tokens.ChildId.{ChildId}
use Rattle.efi_base.specs.declared.tokens.Ticket.{Ticket}
use Rattle.efi_base.specs.declared.tokens.TokenId.{TokenId}
use Rattle.efi_base.specs.declared.tokens.Owner.{Owner}
use Rattle.efi_base.specs.declared.refuse.Refuse.{Refuse}
use Rattle.efi_base.specs.declared.refuse.Refuse.TheVariants.{NotStarted, AlreadyStarted}
use Rattle.efi_base.specs.Refusals.{first_of, refuse_if}
use Rattle.efi_book.specs.declared.children.Child.{Child}
use Rattle.efi_book.specs.Families.{Family, no_children, no_children_from, value_of, handle_refusal, with_child, with_own, without_child, with_value}
use Rattle.efi_book.specs.Books.{Tokens, no_tokens, no_tokens_from, accept_refusal, with_pending, child_aborted, cancel_refusal, cancelled, token_refusal, token_cancelled}
use Rattle.efi_book.specs.Outboxes.{Waiting, no_messages}

-- the children with their configurations, the tokens, and the messages for the layer below
pub record Drive (C W M : Type 0) : Type 0 where
  pub family : Family (Option C)
  pub tokens : Tokens W
  pub outbox : Waiting M

abbrev pub id_of : ℕ → ChildId
id_of serial = record { 0 = serial }

-- the child has a configuration
abbrev pub is_configured : {C : Type 0} → Child (Option C) → Bool
is_configured child = is_some child.value

module _ {C W M : Type 0} where
  abbrev pub start : ℕ → Drive C W M
  start own = record { family = no_children 256 own; tokens = no_tokens; outbox = no_messages }

  abbrev pub start_from : ℕ → ℕ → ℕ → Drive C W M
  start_from own serial ticket = record { family = no_children_from 256 own serial; tokens = no_tokens_from ticket; outbox = no_messages }

  abbrev pub in_family : Drive C W M → Family (Option C) → Drive C W M
  in_family s f = record { family = f; tokens = s.tokens; outbox = s.outbox }

  abbrev pub in_tokens : Drive C W M → Tokens W → Drive C W M
  in_tokens s ts = record { family = s.family; tokens = ts; outbox = s.outbox }

  abbrev pub in_outbox : Drive C W M → Waiting M → Drive C W M
  in_outbox s b = record { family = s.family; tokens = s.tokens; outbox = b }

  -- the configuration of the named child, if it has one
  abbrev pub cfg_of : Drive C W M → ℕ → ℕ → Option C
  cfg_of s key serial = option_and_then (λ (c : Option C). c) (value_of s.family key serial)

  -- a caller's child is configured
  abbrev pub is_busy : Drive C W M → Bool
  is_busy s = is_some (find is_configured s.family.live)

  abbrev pub made : Drive C W M → ℕ → Drive C W M
  made s key = in_family s (with_child s.family key None)

  abbrev pub own_made : Drive C W M → ℕ → Drive C W M
  own_made s key = in_family s (with_own s.family key None)

  -- the pending tokens of the child end as aborted
  abbrev pub stopped : Drive C W M → ℕ → Drive C W M
  stopped s serial = in_tokens s (child_aborted s.tokens (id_of serial))

  abbrev pub destroyed : Drive C W M → ℕ → ℕ → Drive C W M
  destroyed s key serial = in_family (stopped s serial) (without_child s.family key serial)

  abbrev pub configure_refusal : Drive C W M → ℕ → ℕ → Option C → Option Refuse
  configure_refusal s key serial c =
      first_of (handle_refusal s.family key serial) (refuse_if (is_some c && is_some (cfg_of s key serial)) AlreadyStarted)

  -- with data the child gets it; without, it loses it, and its pending tokens end as aborted
  abbrev pub configured : Drive C W M → ℕ → ℕ → Option C → Drive C W M
  configured s key serial (Some c) = in_family s (with_value s.family key serial (Some c))
  configured s key serial None = in_family (stopped s serial) (with_value s.family key serial None)

  abbrev pub drive_cancel_refusal : Drive C W M → ℕ → ℕ → Option Ticket → Option Refuse
  drive_cancel_refusal s key serial None = handle_refusal s.family key serial
  drive_cancel_refusal s key serial (Some t) = first_of (handle_refusal s.family key serial) (cancel_refusal s.tokens (id_of serial) t)

  abbrev pub drive_cancelled : Drive C W M → ℕ → Option Ticket → Drive C W M
  drive_cancelled s serial None = stopped s serial
  drive_cancelled s serial (Some t) = in_tokens s (cancelled s.tokens (id_of serial) t)

  abbrev pub drive_token_refusal : Drive C W M → ℕ → ℕ → Option TokenId → Option Refuse
  drive_token_refusal s key serial None = handle_refusal s.family key serial
  drive_token_refusal s key serial (Some t) = first_of (handle_refusal s.family key serial) (token_refusal s.tokens (id_of serial) t)

  abbrev pub drive_token_cancelled : Drive C W M → ℕ → Option TokenId → Drive C W M
  drive_token_cancelled s serial None = stopped s serial
  drive_token_cancelled s serial (Some t) = in_tokens s (token_cancelled s.tokens (id_of serial) t)

  abbrev pub post_refusal : Drive C W M → ℕ → ℕ → Owner → Option Refuse
  post_refusal s key serial owner =
      first_of
      (handle_refusal s.family key serial)
      (first_of
      (refuse_if (is_none (cfg_of s key serial)) NotStarted)
      (accept_refusal s.tokens (id_of serial) owner))

  abbrev pub posted : Drive C W M → ℕ → Owner → W → Drive C W M
  posted s serial owner work = in_tokens s (with_pending s.tokens (id_of serial) owner work)
