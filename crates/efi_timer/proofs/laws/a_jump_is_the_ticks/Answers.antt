use Rattle.std.proofs.Common.{◌≡◌, true}
use Rattle.efi_timer.specs.Ticking.{steps_once}
use Rattle.efi_timer.proofs.laws.a_jump_is_the_ticks.Goals as goal

pub returns : goal.returns
returns g c = λ moment act at next good law. steps_once moment act at next (λ s. good s ≡ true) law
