use Rattle.std.proofs.Common.{subst, sym}
use Rattle.std.specs.Prelude.{IfSome, Option}
use Rattle.tcp_send.specs.declared.text.Cut.{Cut}
use Rattle.tcp_send.specs.Stream.{IsTrueCut}
use Rattle.tcp_send.proofs.TrueCuts.{row-is-true, new-is-true}
use Rattle.tcp_send.proofs.sender.Send.next_segment.Goals as goal

pub returns-then-is_due-clause-true_cut : goal.returns-then-is_due-clause-true_cut
returns-then-is_due-clause-true_cut c =
    λ text keeps.
    let s = c.args.self.now in
    let IsGood : Option Cut → Type 0 = λ o. IfSome o (IsTrueCut text s.finished) in
    subst IsGood (sym c.at_row.ensures.cut) (row-is-true text s c.is_open.ensures.sound keeps)

pub returns-then-may_send-clause-true_cut : goal.returns-then-may_send-clause-true_cut
returns-then-may_send-clause-true_cut c =
    λ text keeps.
    let s = c.args.self.now in
    let IsGood : Cut → Type 0 = λ cut. IsTrueCut text s.finished cut in
    subst IsGood (sym c.send_new.ensures.cut) (new-is-true text s _ c.is_open.ensures.sound keeps)
