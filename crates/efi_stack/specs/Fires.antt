-- Tokens that have ended, as callers take them: those of lower drivers first.
use Rattle.std.specs.Prelude.{ℕ, Option, Some, None, option_map, slice_get}
use Rattle.efi_base.specs.declared.tokens.Owner.{Owner}
use Rattle.efi_base.specs.declared.tokens.Owner.TheVariants.{User}
use Rattle.efi_book.specs.declared.ends.Done.{Done}
use Rattle.efi_book.specs.Books.{without_done}
use Rattle.efi_book.specs.Cores.{in_tokens}
use Rattle.efi_book.specs.Owners.{counts}
use Rattle.drv_mnp.specs.declared.work.MnpWork.{MnpWork}
use Rattle.drv_mnp.specs.Mnps as mnps
use Rattle.drv_arp.specs.declared.asks.ArpWork.{ArpWork}
use Rattle.drv_arp.specs.Arps as arps
use Rattle.efi_stack.specs.OnMnp as on_mnp
use Rattle.efi_stack.specs.OnArp as on_arp
use Rattle.efi_stack.specs.Stacks.{with_mnp, with_arp}
use Rattle.efi_stack.specs.declared.any.Fired.{Fired}
use Rattle.efi_stack.specs.declared.stack.Stack.{Stack}

abbrev pub first_of_these : Option (Done MnpWork) → Option (Done ArpWork) → Option Fired
first_of_these None asks = option_map on_arp.fired asks
first_of_these (Some d) asks = Some (on_mnp.fired d)

-- those that ended first, of each driver
abbrev pub first_mnp : Stack → Option (Done MnpWork)
first_mnp s = slice_get s.mnp.drive.tokens.done 0

abbrev pub first_arp : Stack → Option (Done ArpWork)
first_arp s = option_map arps.done_of (slice_get s.arp.drive.tokens.done 0)

-- the token that is taken
abbrev pub first_fired : Stack → Option Fired
first_fired s = first_of_these (first_mnp s) (first_arp s)

abbrev pub arp_left : Stack → Option (Done ArpWork) → Stack
arp_left s None = s
arp_left s (Some d) = with_arp s (arps.in_drive s.arp (in_tokens s.arp.drive (without_done s.arp.drive.tokens)))

abbrev pub left : Stack → Option (Done MnpWork) → Stack
left s None = arp_left s (first_arp s)
left s (Some d) = with_mnp s (mnps.in_drive s.mnp (in_tokens s.mnp.drive (without_done s.mnp.drive.tokens)))

-- what is left once it is taken
abbrev pub without_fired : Stack → Stack
without_fired s = left s (first_mnp s)

-- how many tokens of this owner were taken
abbrev pub gone : Owner → Option Fired → ℕ
gone o None = 0
gone o (Some f) = counts o (User f.token)
