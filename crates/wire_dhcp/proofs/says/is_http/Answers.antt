-- Ten octets in front.
use Rattle.std.proofs.Common.{sym, refl, ◌∙◌}
use Rattle.wire_dhcp.proofs.Values.{http-read, http-short}
use Rattle.wire_dhcp.proofs.says.is_http.Goals as goal

pub returns-then-size-lt10 : goal.returns-then-size-lt10
returns-then-size-lt10 c = http-short _ c.in-Some.size (sym c.in-Some.is ∙ c.option.ensures.size) c.if-size-lt10.true

pub returns : goal.returns
returns c =
    c.eq.ensures
    ∙ http-read _ c.in-Some.size _ c.option.new.room (sym c.in-Some.is ∙ c.option.ensures.size) c.if-size-lt10.false refl c.option.ensures.text
