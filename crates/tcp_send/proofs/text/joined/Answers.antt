use Rattle.std.proofs.Common.{◌-◌, ◌++◌, length, take, drop, ap, ◌∙◌}
use Rattle.tcp_send.proofs.Pieces.{part-two}
use Rattle.tcp_send.proofs.text.joined.Goals as goal

pub returns : goal.returns
returns c =
    c.append-2.ensures ∙ ap (λ xs. xs ++ c.piece-second.result.now) (c.append.ensures ∙ ap (λ xs. xs ++ c.piece-first.result.now) c.new-octets.ensures)
    ∙ part-two c.args.count c.args.skipped c.args.front.now c.args.back.now c.piece-first.result.now c.piece-second.result.now c.piece-first.ensures.piece
    (c.piece-second.ensures.piece ∙ ap (λ n. take (c.args.count - length c.piece-first.result.now) (drop n c.args.back.now)) c.saturating_sub.ensures)
