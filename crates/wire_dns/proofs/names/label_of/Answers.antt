-- The label stands behind its length, or is cut short.
use Rattle.std.proofs.Common.{arith, ◌≡◌, ◌+◌, ◌-◌}
use Rattle.wire_dns.proofs.Spelling.{label-begins, label-cut}
use Rattle.wire_dns.proofs.names.label_of.Goals as goal

pub returns-then-octets-size : goal.returns-then-octets-size
returns-then-octets-size c = λ led. label-cut led c.args.octets.now c.args.size c.requires.there c.requires.size c.requires.some c.requires.short c.if-octets-size.true

pub returns : goal.returns
returns c =
    let same : 1 + c.args.size - 1 ≡ c.args.size = omega arith in
    rw same (label-begins c.args.octets.now c.args.size c.requires.there c.requires.size c.requires.some c.requires.short c.if-octets-size.false)
