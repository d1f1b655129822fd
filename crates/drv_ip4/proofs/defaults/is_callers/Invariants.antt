use Rattle.std.proofs.Common.{◌≡◌, drop}
use Rattle.std.specs.List.{list_any}
use Rattle.drv_ip4.specs.Lost.{is_user_of}
use Rattle.drv_ip4.proofs.defaults.is_callers.Given as goal

-- what those from here on tell is what all tell
abbrev pub invariant-loop-i : goal.invariant-loop-i
invariant-loop-i l = list_any (is_user_of l.id) (drop l.i l.children.live) ≡ list_any (is_user_of l.id) l.children.live
