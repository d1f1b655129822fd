use Rattle.std.proofs.Common.{◌≡◌, drop}
use Rattle.efi_book.specs.Books.{Keeps}
use Rattle.drv_arp.specs.Arps.{settled}
use Rattle.drv_arp.proofs.told.settle.Given as goal

abbrev pub invariant-loop-t : goal.invariant-loop-t
invariant-loop-t l = record {
  whole : settled l.tokens (drop l.t-index l.answers) ≡ settled l.initial.tokens l.answers;
  keeps : Keeps l.initial.tokens l.tokens;
}
