-- An octet has at most three digits.
use Rattle.std.proofs.Common.{◌≡◌, length, decimal, arith, ap, ◌∙◌}
use Rattle.wire_dns.proofs.Reverse.{few-digits}
use Rattle.wire_dns.proofs.question.put_octet.Goals as goal

pub put-requires : goal.put-requires
put-requires c =
    let few = few-digits c.args.number c.requires.octet in
    let same : length c.as_bytes.result.now ≡ length (decimal c.args.number) = ap length (c.as_bytes.ensures.value ∙ c.format.ensures.text) in
    omega (arith, few, same, c.requires.room)

pub put-requires-2 : goal.put-requires-2
put-requires-2 c =
    let few = few-digits c.args.number c.requires.octet in
    let same : length c.as_bytes.result.now ≡ length (decimal c.args.number) = ap length (c.as_bytes.ensures.value ∙ c.format.ensures.text) in
    omega (arith, few, same, c.requires.room, c.put.ensures.len)

pub returns-clause-short : goal.returns-clause-short
returns-clause-short c =
    let few = few-digits c.args.number c.requires.octet in
    let same : length c.as_bytes.result.now ≡ length (decimal c.args.number) = ap length (c.as_bytes.ensures.value ∙ c.format.ensures.text) in
    omega (arith, few, same, c.put.ensures.len, c.put-2.ensures.len)
