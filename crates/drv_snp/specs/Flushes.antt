-- What one sending of the queue's front does to the device and the link.
use Rattle.std.specs.Prelude.{◌≡◌, ⊤, Bool, true, false, List, [], ◌∷◌, Option, Some, None, Result, Ok, Err}
use Rattle.efi_base.specs.declared.fault.NoMemory.{NoMemory}
use Rattle.efi_outside.specs.declared.fault.Miss.{Miss}
use Rattle.efi_outside.specs.declared.fault.Miss.TheVariants.{Failed}
use Rattle.efi_link.specs.Wires.{Wire, Sends}
use Rattle.drv_snp.specs.declared.device.Queued.{Queued}
use Rattle.drv_snp.specs.declared.device.Sent.{Sent}
use Rattle.drv_snp.specs.Devices.{Device}

abbrev pub with_queue : Device → List Queued → Device
with_queue d queue = record d { queue = queue }

abbrev pub answer_of : Bool → Result ⊤ Miss
answer_of true = Ok tt
answer_of false = Err Failed

-- the front is sent once and leaves the queue, whatever the link makes of it; it stays in front where the link has no
-- memory; and nothing is sent where nothing waits
abbrev pub FlushesFrom : List Queued → Device → Device → Wire → Wire → Result (Option Sent) NoMemory → Type 0
FlushesFrom [] old new before after result = (result ≡ Ok None) × (new ≡ old) × (after ≡ before)
FlushesFrom (q ∷ rest) old new before after (Ok None) = ⊥
FlushesFrom (q ∷ rest) old new before after (Ok (Some sent)) =
    (sent.mark ≡ q.mark) × (new ≡ with_queue old rest) × Sends before after q.frame (answer_of sent.ok)
FlushesFrom (q ∷ rest) old new before after (Err e) = (new ≡ old) × (after ≡ before)

abbrev pub Flushes : Device → Device → Wire → Wire → Result (Option Sent) NoMemory → Type 0
Flushes old new before after result = FlushesFrom old.queue old new before after result
