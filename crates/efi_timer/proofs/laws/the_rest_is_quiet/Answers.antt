use Rattle.std.proofs.Common.{◌≡◌, true}
use Rattle.efi_timer.specs.Ticking.{rests}
use Rattle.efi_timer.proofs.laws.the_rest_is_quiet.Goals as goal

pub returns : goal.returns
returns g c = λ moment act at next good law. rests moment act at next (λ s. good s ≡ true) law
