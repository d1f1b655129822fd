use Rattle.std.proofs.Common.{◌≡◌, drop, filter}
use Rattle.efi_book.specs.Books.{Keeps}
use Rattle.drv_udp4.specs.Unreached.{all_refused, is_senders}
use Rattle.drv_udp4.proofs.icmp.tell_all.Given as goal

-- those from here on make the whole
abbrev pub invariant-loop-i : goal.invariant-loop-i
invariant-loop-i l =
    let test = is_senders l.home l.q in
    (all_refused (filter test (drop l.i l.children.live)) l.tokens ≡ all_refused (filter test l.children.live) l.initial.tokens)
    × Keeps l.initial.tokens l.tokens
