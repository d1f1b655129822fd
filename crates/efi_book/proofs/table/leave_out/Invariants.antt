use Rattle.std.proofs.Common.{◌≡◌, ◌-◌, ◌≤◌, ◌++◌, length, take, drop, filter, vec_capacity}
use Rattle.efi_book.specs.Tables.{is_not_key}
use Rattle.efi_book.proofs.table.leave_out.Given as goal

abbrev pub invariant-loop-i : goal.invariant-loop-i
invariant-loop-i l = record {
  within : l.i ≤ length l.order.items;
  kept : take l.i l.order.items ++ filter (is_not_key l.key) (drop l.i l.order.items) ≡ filter (is_not_key l.key) l.initial.order.items;
  room : vec_capacity l.order ≡ vec_capacity l.initial.order;
}

abbrev pub decreases-loop-i : goal.decreases-loop-i
decreases-loop-i l = length l.order.items - l.i
