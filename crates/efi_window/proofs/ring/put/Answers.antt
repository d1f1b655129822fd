use Rattle.std.proofs.Common.{refl}
use Rattle.std.proofs.lemmas.List.{take_rest}
use Rattle.efi_window.proofs.Rounds.{placed}
use Rattle.efi_window.proofs.ring.put.Goals as goal

pub returns : goal.returns
returns c = placed c.args.place c.args.room c.min-first.result c.args.bytes.now _ _ _ _ _ _ _ _ c.requires.some c.requires.fits c.min-first.ensures refl (take_rest c.args.bytes.now c.min-first.result) c.put_run.ensures c.put_run-2.ensures
