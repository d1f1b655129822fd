use Rattle.std.proofs.Common.{◌≡◌, filter, drop}
use Rattle.efi_book.specs.Books.{Keeps}
use Rattle.drv_ip4.specs.Hearing.{all_given, is_for}
use Rattle.drv_ip4.proofs.hearing.give_callers.Given as goal

-- those from here on make the whole of what is given
abbrev pub invariant-loop-i : goal.invariant-loop-i
invariant-loop-i l =
    let test = is_for l.home l.d in
    (all_given l.d (filter test (drop l.i l.children.live)) l.tokens ≡ all_given l.d (filter test l.children.live) l.initial.tokens)
    × Keeps l.initial.tokens l.tokens
