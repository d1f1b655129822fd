-- What the end of a default address does to tokens: those of the children that use it end.
use Rattle.std.specs.Prelude.{Bool, false, ◌&&◌, ◌||◌, ◌==◌, is_none, Option, Some, None}
use Rattle.std.specs.List.{list_any}
use Rattle.efi_base.specs.declared.tokens.ChildId.{ChildId}
use Rattle.efi_base.specs.declared.tokens.End.TheVariants.{NoMapping}
use Rattle.efi_base.specs.declared.plain.Addr.{Addr}
use Rattle.efi_book.specs.declared.children.Child.{Child}
use Rattle.efi_book.specs.declared.ends.Pending.{Pending}
use Rattle.efi_book.specs.Families.{Family}
use Rattle.efi_book.specs.Books.{Tokens}
use Rattle.efi_book.specs.Rounds.{all_ended}
use Rattle.drv_ip4.specs.declared.work.IpCfg.{IpCfg}
use Rattle.drv_ip4.specs.declared.work.IpWork.{IpWork}

-- the configuration names no address of the child's own
abbrev pub uses_default : Option IpCfg → Bool
uses_default None = false
uses_default (Some cfg) = is_none cfg.at

-- it is the child of this serial, and it uses the default address
abbrev pub is_user_of : ChildId → Child (Option IpCfg) → Bool
is_user_of id child = child.serial == id.0 && uses_default child.value

-- the child of this serial, a caller's or the stack's own, uses the default address
abbrev pub has_user : Family (Option IpCfg) → ChildId → Bool
has_user f id = list_any (is_user_of id) f.live || list_any (is_user_of id) f.own

-- a token of a child that uses the default address
abbrev pub rests_on : Family (Option IpCfg) → Pending IpWork → Bool
rests_on f p = has_user f p.child

-- where a default address stood, the tokens that rest on it end, the oldest first, each by its owner's exit
abbrev pub lost_with : Option Addr → Family (Option IpCfg) → Tokens IpWork → Tokens IpWork
lost_with None f ts = ts
lost_with (Some home) f ts = all_ended (rests_on f) NoMapping ts
