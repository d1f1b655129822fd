use Rattle.efi_timer.specs.Rows.{rows_cleared}
use Rattle.efi_timer.proofs.laws.clear_takes_the_row.Goals as goal

pub returns : goal.returns
returns c = rows_cleared
