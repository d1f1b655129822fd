-- A number has at most 20 digits.
use Rattle.std.proofs.Common.{◌≡◌, ◌≤◌, length, decimal, rules, arith, ap, ◌∙◌}
use Rattle.std.proofs.lemmas.Fmt.{length-decimal-le}
use Rattle.wire_tftp.proofs.options.put_number.Goals as goal

pub put_text-requires : goal.put_text-requires
put_text-requires c =
    let few : length (decimal c.in-Some.number) ≤ 20 = search (rules, length-decimal-le 20) in
    let same : length c.as_bytes.result.now ≡ length (decimal c.in-Some.number) = ap length (c.as_bytes.ensures.value ∙ c.format.ensures.text) in
    omega (arith, few, same, c.put_text-first.ensures.bound)

pub returns-clause-bound : goal.returns-clause-bound
returns-clause-bound c =
    let few : length (decimal c.in-Some.number) ≤ 20 = search (rules, length-decimal-le 20) in
    let same : length c.as_bytes.result.now ≡ length (decimal c.in-Some.number) = ap length (c.as_bytes.ensures.value ∙ c.format.ensures.text) in
    omega (arith, few, same, c.put_text-first.ensures.bound, c.put_text.ensures.bound)
