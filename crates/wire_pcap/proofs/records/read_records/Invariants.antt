-- What was read up to here are records, each of which was made ready.
use Rattle.std.proofs.Common.{◌-◌, length}
use Rattle.wire_pcap.specs.Next.{MadeReady}
use Rattle.wire_pcap.proofs.records.read_records.Given as goal

abbrev pub invariant-loop-head : goal.invariant-loop-head
invariant-loop-head l = MadeReady l.fn.form l.bytes l.fn.from (record { at = l.at; clock = l.clock }) l.fn.ready.items l.ready.items

abbrev pub decreases-loop-head : goal.decreases-loop-head
decreases-loop-head l = length l.bytes - l.at
