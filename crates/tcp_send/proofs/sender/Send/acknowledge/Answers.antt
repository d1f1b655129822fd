use Rattle.std.proofs.Common.{◌≡◌, ◌≤◌, ◌-◌, length, drop, ap, ◌∙◌, arith}
use Rattle.circular_buffer.specs.Buffer.{Buffer}
use Rattle.tcp_send.specs.Inside.{seen}
use Rattle.tcp_send.specs.Sender.{Sender, next_place}
use Rattle.tcp_send.proofs.Cuts.{left-base, left-sum}
use Rattle.tcp_send.proofs.Senders.{good-acknowledged}
use Rattle.tcp_send.proofs.sender.Send.acknowledge.Goals as goal

pub overflow_sub-rest : goal.overflow_sub-rest
overflow_sub-rest c = omega (arith, left-base c.args.una c.self.inside.base c.self.inside.flight.items, c.release-base.ensures.base)

pub overflow_sub-rest-2 : goal.overflow_sub-rest-2
overflow_sub-rest-2 c =
    omega (
      arith,
      left-base c.args.una c.self.inside.base c.self.inside.flight.items,
      left-sum c.args.una c.self.inside.base c.self.inside.flight.items,
      c.release-base.ensures.base,
      c.len.ensures.len,
      c.self.invariant.sender.sent,
    )

pub invariant_of-self : goal.invariant_of-self
invariant_of-self c =
    let old = c.self.inside in
    let una = c.args.una in
    let base = c.release-base.result in
    let least : old.una ≤ una = omega (arith, c.requires.least, ap (λ (s : Sender). s.una) c.self.view_is) in
    let most : una ≤ next_place (seen old) = omega (arith, c.requires.most, ap next_place c.self.view_is) in
    let from : old.base ≤ base = omega (arith, left-base una old.base old.flight.items, c.release-base.ensures.base) in
    let within : base - old.base ≤ length old.ring.items =
    omega (arith, from, left-sum una old.base old.flight.items, c.release-base.ensures.base, c.self.invariant.sender.sent) in
    let count : length old.ring.items - (c.len.result - (base - old.base)) ≡ base - old.base = omega (arith, within, c.len.ensures.len) in
    record {
      capacity = ap (λ (b : Buffer _). b.capacity) c.truncate_front.ensures ∙ c.self.invariant.capacity;
      sender = good-acknowledged (seen old) una base c.truncate_front.new.self.items c.release-base.new.flight.items c.self.invariant.sender least most
          c.release-base.ensures.base c.release-base.ensures.flight
          (ap (λ (b : Buffer _). b.items) c.truncate_front.ensures ∙ ap (λ n. drop n old.ring.items) count);
    }
