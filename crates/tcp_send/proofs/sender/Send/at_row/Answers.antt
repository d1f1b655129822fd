use Rattle.std.proofs.Common.{◌≡◌, true, Some, [], length, ap, sym, ◌∙◌, arith}
use Rattle.tcp_send.specs.Sender.{Sender, cut_at, sent_of, first_cut, with_sent, row_passed}
use Rattle.tcp_send.proofs.Cuts.{first-most, first-none}
use Rattle.tcp_send.proofs.Senders.{row-first, row-after}
use Rattle.tcp_send.proofs.sender.Send.at_row.Goals as goal

pub cut-requires-clause-len : goal.cut-requires-clause-len
cut-requires-clause-len c = first-most c.self.inside.finished (length c.self.inside.ring.items) c.self.inside.flight.items c.in-Some.oldest (cc) c.self.invariant.sender.cuts

pub send_first-cut-requires-clause-room : goal.send_first-cut-requires-clause-room
send_first-cut-requires-clause-room c =
    let e : c.self.inside.flight.items ≡ [] = first-none c.self.inside.flight.items (cc) in
    omega (arith, ap length e)

pub returns-clause-cut : goal.returns-clause-cut
returns-clause-cut c =
    let s = c.args.self.now in
    let none : s.flight ≡ [] = ap (λ (s : Sender). s.flight) (sym c.self.view_is) ∙ first-none c.self.inside.flight.items (cc) in
    ap (λ x. Some x) (c.send_first-cut.ensures.cut ∙ ap (λ (s : Sender). cut_at s (sent_of s) (first_cut s 1)) c.self.view_is)
    ∙ sym (row-first s (λ e. c.if-passed-eq-SEGMENT_ROWS.false (c.passed-passed.ensures ∙ e)) none)

pub returns-clause-sender : goal.returns-clause-sender
returns-clause-sender c =
    let s = c.args.self.now in
    let none : s.flight ≡ [] = ap (λ (s : Sender). s.flight) (sym c.self.view_is) ∙ first-none c.self.inside.flight.items (cc) in
    ap (λ (s : Sender). record s { probing = true }) (c.self-2.view_is ∙ c.send_first-cut.ensures.sender
    ∙ ap (λ (s : Sender). with_sent (record s { backoff = c.row_passed-self-inside.result }) (first_cut s 1)) c.self.view_is
    ∙ ap (λ b. with_sent (record s { backoff = b }) (first_cut s 1)) (c.row_passed-self-inside.ensures ∙ ap (λ (s : Sender). row_passed s.backoff) c.self.view_is))
    ∙ sym (row-after s (λ e. c.if-passed-eq-SEGMENT_ROWS.false (c.passed-passed.ensures ∙ e)) none)
