-- What stands behind the padding.
use Rattle.std.proofs.Common.{◌<◌, length, refl, arith}
use Rattle.wire_dhcp.proofs.Walking.{at-cut, at-option, behind-none, behind-option}
use Rattle.wire_dhcp.proofs.options.step_at.Goals as goal

pub returns-then-rest-end : goal.returns-then-rest-end
returns-then-rest-end c =
    let rest = c.skip_padding-rest.result.now in
    let there : 0 < length rest = omega arith in
    behind-none rest c.args.octets.now _ c.skip_padding-rest.ensures.items c.skip_padding-rest.ensures.ended
    (at-cut rest c.if-rest-lt2.false c.if-rest-end.true (c.skip_padding-rest.ensures.code there) c.if-rest.false)

pub returns : goal.returns
returns c =
    let rest = c.skip_padding-rest.result.now in
    let there : 0 < length rest = omega arith in
    behind-option rest c.args.octets.now _ _ c.skip_padding-rest.ensures.items c.skip_padding-rest.ensures.ended c.skip_padding-rest.ensures.within
    (at-option rest _ c.if-rest-lt2.false refl c.if-rest-end.false (c.skip_padding-rest.ensures.code there) c.if-rest.false)
