-- What a read gives and what is left are what was left.
use Rattle.efi_outside.proofs.Known.{front-moved}
use Rattle.efi_outside.proofs.memory.SureSourceSource.read.Goals as goal

pub returns-clause-bytes : goal.returns-clause-bytes
returns-clause-bytes c =
    rw (← c.self.view_is)
    (front-moved _ _ _ _ _ (rw (← c.rest_of.ensures) c.copy_front-count.ensures.count) c.copy_front-count.auto.room (rw (← c.rest_of.ensures) c.copy_front-count.ensures.copied))
