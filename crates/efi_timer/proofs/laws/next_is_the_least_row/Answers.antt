use Rattle.std.proofs.Common.{option_map}
use Rattle.efi_timer.specs.declared.timers.Timer.{Timer}
use Rattle.efi_timer.specs.Moments.{soonest}
use Rattle.efi_timer.specs.Rows.{has, next_unique, next_is_least}
use Rattle.efi_timer.proofs.laws.next_is_the_least_row.Goals as goal

pub returns : goal.returns
returns c = λ ts rows o h i. next_unique (has ts) rows (option_map (λ (t : Timer). t.at.0) (soonest ts)) o h (next_is_least ts) i
