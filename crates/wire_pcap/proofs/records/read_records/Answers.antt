use Rattle.std.proofs.Common.{◌-◌, length, take, drop, arith}
use Rattle.std.proofs.lemmas.List.{take_rest}
use Rattle.wire_pcap.proofs.Standing.{made_more_at}
use Rattle.wire_pcap.proofs.records.read_records.Goals as goal

pub loop-head-preserved : goal.loop-head-preserved
loop-head-preserved c =
    let bytes = c.args.bytes.now in
    let at = c.loop-head.at in
    made_more_at c.args.form bytes c.args.from at c.loop-head.clock c.clock_at-clock.result c.args.ready.now.items c.loop-head.ready.items
    c.make_record.new.ready.items c.in-Whole.head (λ i. omega (arith, c.type_inv.bytes i)) c.loop-head.invariant
    (take (length bytes - at) (drop at bytes)) (take_rest bytes at) c.in-Whole.ensures c.clock_at-clock.ensures
    c.in_ok-make_record-in-Whole.ensures.made
