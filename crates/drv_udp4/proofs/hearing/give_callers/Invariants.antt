use Rattle.std.proofs.Common.{◌≡◌, filter, drop}
use Rattle.efi_book.specs.Books.{Keeps}
use Rattle.drv_udp4.specs.Hearing.{all_given, arrival_seen, is_for}
use Rattle.drv_udp4.proofs.hearing.give_callers.Given as goal

-- those from here on make the whole of what is given
abbrev pub invariant-loop-i : goal.invariant-loop-i
invariant-loop-i l =
    let test = is_for (arrival_seen l.a) in
    (all_given (arrival_seen l.a) (filter test (drop l.i l.children.live)) l.tokens ≡ all_given (arrival_seen l.a) (filter test l.children.live) l.initial.tokens)
    × Keeps l.initial.tokens l.tokens
