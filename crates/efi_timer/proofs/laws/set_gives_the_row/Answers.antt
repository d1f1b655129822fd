use Rattle.efi_timer.specs.Rows.{rows_set}
use Rattle.efi_timer.proofs.laws.set_gives_the_row.Goals as goal

pub returns : goal.returns
returns c = rows_set
