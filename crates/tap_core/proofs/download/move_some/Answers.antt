-- The octets that were taken stand at the front of the room, and the load takes them in.
use Rattle.std.proofs.Common.{◌≡◌, ◌++◌, ◌+◌, ◌^◌, ◌≤◌, ap, subst, take, length, arith, ◌∙◌}
use Rattle.std.proofs.lemmas.List.{length-take-le}
use Rattle.tcp_recv.specs.Stream.{front}
use Rattle.tcp_recv.specs.Receiver.{untaken}
use Rattle.load_core.specs.Taken.{HasTaken}
use Rattle.tap_core.proofs.Streams.{front-drop, take-room}
use Rattle.tap_core.proofs.download.move_some.Goals as goal

pub returns-in-Ok-clause-left : goal.returns-in-Ok-clause-left
returns-in-Ok-clause-left c =
    ap (λ r. front r.held) c.take-count.ensures.receiver
    ∙ front-drop c.take-count.result c.args.recv.now.held (omega (arith, c.take-count.ensures.count))

pub returns-in-Ok-clause-carries : goal.returns-in-Ok-clause-carries
returns-in-Ok-clause-carries c = λ most board h.
    let n = c.take-count.result in
    let ready = untaken c.args.recv.now in
    let few : n ≤ length ready = omega (arith, c.take-count.ensures.count) in
    let moved : take n c.take-count.new.room ≡ take n ready = ap (take n) c.take-count.ensures.bytes ∙ take-room n ready c.args.room.now few in
    let fits : length h.given + length (take n c.take-count.new.room) ≤ 2 ^ 62 =
    omega (arith, ap length moved, length-take-le n ready few, few, c.take-count.ensures.bound, h.stands.count) in
    record {
      given = h.given ++ take n ready;
      stands = c.take-count.ensures.stands board h.given h.stands;
      taken = subst (λ l. HasTaken c.feed.new.self most (h.given ++ l)) moved (c.in-Ok.ensures.taken most h.given h.taken fits);
    }
