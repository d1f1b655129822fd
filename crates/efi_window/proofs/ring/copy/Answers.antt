use Rattle.std.proofs.Common.{◌+◌, ◌-◌, ◌%◌, arith}
use Rattle.efi_window.proofs.Rounds.{copied}
use Rattle.efi_window.proofs.ring.copy.Goals as goal

pub returns-clause-bytes : goal.returns-clause-bytes
returns-clause-bytes c = λ i h. copied c.args.place c.args.room c.args.count
    (c.args.place % c.args.room + c.min-first.result - c.args.place % c.args.room) (c.args.count - c.min-first.result) i
    c.args.ring.now _ _ (c.requires.enough (omega arith)) (omega arith) c.requires.fits (omega (arith, c.min-first.ensures)) (omega arith) c.fill.ensures h
