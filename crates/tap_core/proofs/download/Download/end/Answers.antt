-- The load tells the first case, of the stream whose end the receiver tells.
use Rattle.std.proofs.Common.{◌≡◌, ◌∙◌, subst}
use Rattle.tcp_recv.specs.Stream.{front, is_over}
use Rattle.load_core.specs.Cases.{IsFirstCase}
use Rattle.tap_core.proofs.Streams.{taken-Follows, over-Follows}
use Rattle.tap_core.proofs.download.Download.end.Goals as goal

pub returns : goal.returns
returns c most irs board f =
    let d = c.args.self.now in
    let over : c.ended.result ≡ is_over board = c.ended.ensures ∙ over-Follows most irs board d f in
    subst (λ fin. IsFirstCase most (front board.kept) fin c.args.reset c.end.result) over
    (c.end.ensures most (front board.kept) (taken-Follows most irs board d f))
