use Rattle.std.proofs.Common.{◌≡◌, filter, drop}
use Rattle.wire_link.specs.Seen.{frame_seen}
use Rattle.efi_book.specs.Books.{Keeps}
use Rattle.drv_mnp.specs.Hearing.{all_given, is_for}
use Rattle.drv_mnp.proofs.hearing.give_own.Given as goal

-- those from here on make the whole of what is given
abbrev pub invariant-loop-i : goal.invariant-loop-i
invariant-loop-i l =
    let test = is_for l.a.mac.0 (frame_seen l.a.ether) in
    (all_given l.a.octets.now (filter test (drop l.i l.children.own)) l.tokens ≡ all_given l.a.octets.now (filter test l.children.own) l.initial.tokens)
    × Keeps l.initial.tokens l.tokens
