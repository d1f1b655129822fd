-- Whatever was fed and given, the tap heard what was given.
use Rattle.std.proofs.Common.{ℕ, List, length}
use Rattle.efi_base.specs.declared.plain.Record.{Record}
use Rattle.wire_pcap.specs.Reading.{HasRead}
use Rattle.tap_core.specs.Tapping.{HasHeard}
use Rattle.boot_top.proofs.watching.hear_ready.Given as goal

abbrev pub invariant-loop-record : goal.invariant-loop-record
invariant-loop-record l =
    (most : ℕ) (fed : List ℕ) (given : List Record) → HasRead fed given l.initial.reader → HasHeard most given l.initial.tap
    → (now : List Record) × HasRead fed now l.reader × HasHeard most now l.tap

abbrev pub decreases-loop-record : goal.decreases-loop-record
decreases-loop-record l = length l.reader.ready
