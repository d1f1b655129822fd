use Rattle.efi_window.proofs.Words.{mask-inside, mask-below, mask-above}
use Rattle.efi_window.proofs.bits.mask.Goals as goal

pub returns-clause-inside : goal.returns-clause-inside
returns-clause-inside c = λ i a b. mask-inside c.args.low c.args.high i c.requires.order c.requires.within a b

pub returns-clause-below : goal.returns-clause-below
returns-clause-below c = λ i a. mask-below c.args.low c.args.high i c.requires.order c.requires.within a

pub returns-clause-above : goal.returns-clause-above
returns-clause-above c = λ i a. mask-above c.args.low c.args.high i c.requires.order c.requires.within a
