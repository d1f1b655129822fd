use Rattle.ip_hops.proofs.Sound.{sound_runs}
use Rattle.ip_hops.proofs.laws.rounds_and_messages_are_sound.Goals as goal

pub returns : goal.returns
returns g c = sound_runs
