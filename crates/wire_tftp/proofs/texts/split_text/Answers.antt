-- The first zero ends the text in front.
use Rattle.std.proofs.Common.{◌≡◌, ◌<◌, ℕ, length, arith, subst}
use Rattle.wire_tftp.proofs.Splitting.{texts-split, texts-unended}
use Rattle.wire_tftp.proofs.texts.split_text.Goals as goal

pub returns-clause-some : goal.returns-clause-some
returns-clause-some c =
    let within : c.zero_at-end.result < length c.args.octets.now = omega arith in
    texts-split c.args.octets.now c.zero_at-end.result within c.zero_at-end.ensures.before (c.zero_at-end.ensures.at within)

pub returns-then-end-octets-clause-none : goal.returns-then-end-octets-clause-none
returns-then-end-octets-clause-none c =
    texts-unended c.args.octets.now c.zero_at-end.result c.if-end-octets.true c.zero_at-end.ensures.before
