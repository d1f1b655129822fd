use Rattle.std.proofs.Common.{◌≡◌, drop}
use Rattle.efi_book.specs.Books.{Keeps}
use Rattle.efi_book.specs.Drives.{drive}
use Rattle.drv_arp.specs.Ticks.{all_done}
use Rattle.drv_arp.proofs.told.do_all.Given as goal

abbrev pub invariant-loop-t : goal.invariant-loop-t
invariant-loop-t l = record {
  whole : all_done l.m.0 l.mac (drive l.core) (drop l.t-index l.found) ≡ all_done l.m.0 l.mac (drive l.initial.core) l.found;
  keeps : Keeps (drive l.initial.core).tokens (drive l.core).tokens;
}
