use Rattle.efi_base.proofs.Filling.{filled-in, filled-ones}
use Rattle.efi_base.proofs.laws.filled_in_sums_to_ones.Goals as goal

pub returns-clause-checksum : goal.returns-clause-checksum
returns-clause-checksum c = filled-in

pub returns-clause-ones : goal.returns-clause-ones
returns-clause-ones c = filled-ones
