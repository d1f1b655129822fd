use Rattle.std.proofs.Common.{◌≡◌, ◌≤◌, ◌+◌, ◌-◌, ◌^◌, length, take, ap, ◌∙◌, arith, length-append}
use Rattle.std.proofs.lemmas.List.{length-take}
use Rattle.circular_buffer.specs.Buffer.{Buffer}
use Rattle.tcp_send.specs.Inside.{seen}
use Rattle.tcp_send.specs.Sender.{pushed_of}
use Rattle.tcp_send.proofs.Senders.{good-pushed}
use Rattle.tcp_send.proofs.sender.Send.push.Goals as goal

pub invariant_of-self : goal.invariant_of-self
invariant_of-self c =
    let old = c.self.inside in
    let given = c.front_of.result.now in
    let n = c.fill_from_slice.result in
    let items = ap (λ (b : Buffer _). b.items) c.fill_from_slice.ensures.items in
    let count : length c.fill_from_slice.new.self.items ≡ length old.ring.items + length (take n given) = ap length items ∙ length-append old.ring.items (take n given) in
    let most : length given ≤ 2 ^ 62 - (old.base + length old.ring.items) =
    omega (arith, ap length c.front_of.ensures, length-take (2 ^ 62 - c.pushed-most.result) c.args.bytes.now, c.pushed-most.ensures, ap pushed_of c.self.view_is) in
    let taken : length (take n given) ≤ length given = omega (arith, length-take n given) in
    record {
      capacity = ap (λ (b : Buffer _). b.capacity) c.fill_from_slice.ensures.items ∙ c.self.invariant.capacity;
      sender = good-pushed (seen old) c.fill_from_slice.new.self.items c.self.invariant.sender c.if-self.false (omega (arith, count))
          (omega (arith, count, most, taken, c.self.invariant.sender.pushed));
    }
