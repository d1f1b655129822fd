use Rattle.wire_http.proofs.Joining.{joined_five}
use Rattle.wire_http.proofs.request.render.Goals as goal

pub returns : goal.returns
returns c =
    joined_five _ _ _ _ _ _ _ _ _ _ c.in_ok-text.ensures.ok c.in_ok-push_target.ensures c.in_ok-push_str.ensures.bytes c.in_ok-push_authority.ensures c.in_ok-push_str-2.ensures.bytes
