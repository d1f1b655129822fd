use Rattle.std.proofs.Common.{◌≡◌, ◌+◌, ◌-◌, ◌≤◌, ◌++◌, length, take, drop, filter, vec_len, vec_capacity}
use Rattle.std.specs.VecDeque.{deque_len, deque_capacity}
use Rattle.efi_book.specs.Pendings.{picks, picks_not, users_of, uppers_of}
use Rattle.efi_book.proofs.ends.abort_of.Given as goal

abbrev pub invariant-loop-i : goal.invariant-loop-i
invariant-loop-i g l = record {
  within : l.i ≤ length l.pending.items;
  kept : take l.i l.pending.items ++ filter (picks_not l.whose) (drop l.i l.pending.items) ≡ filter (picks_not l.whose) l.initial.pending.items;
  done : l.done.items ++ users_of (filter (picks l.whose) (drop l.i l.pending.items)) ≡ l.initial.done.items ++ users_of (filter (picks l.whose) l.initial.pending.items);
  ups : l.ups.items ++ uppers_of (filter (picks l.whose) (drop l.i l.pending.items)) ≡ l.initial.ups.items ++ uppers_of (filter (picks l.whose) l.initial.pending.items);
  pending_len : vec_len l.pending ≤ vec_len l.initial.pending;
  pending_room : vec_capacity l.pending ≡ vec_capacity l.initial.pending;
  done_len : vec_len l.pending + deque_len l.done ≤ vec_len l.initial.pending + deque_len l.initial.done;
  ups_len : vec_len l.pending + deque_len l.ups ≤ vec_len l.initial.pending + deque_len l.initial.ups;
  done_room : deque_capacity l.done ≡ deque_capacity l.initial.done;
  ups_room : deque_capacity l.ups ≡ deque_capacity l.initial.ups;
}

abbrev pub decreases-loop-i : goal.decreases-loop-i
decreases-loop-i g l = length l.pending.items - l.i
