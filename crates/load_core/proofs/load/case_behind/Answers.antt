-- The first case.
use Rattle.std.proofs.Common.{sym, ap, ◌∙◌, subst, Option}
use Rattle.efi_base.specs.declared.load_end.LoadEnd.{LoadEnd}
use Rattle.load_core.specs.Cases.{IsFirstCase}
use Rattle.load_core.specs.Taken.{case_of}
use Rattle.load_core.proofs.Meeting.{first-behind}
use Rattle.load_core.proofs.load.case_behind.Goals as goal

pub returns : goal.returns
returns c placed stream s all =
    let a = c.args in
    let r = a.reading in
    let st = c.state_at.result in
    let first = first-behind r placed a.most stream a.fin a.reset a.taken st s (c.state_at.ensures s.rest s.octets s.reads) all in
    let e = c.case_of.ensures ∙ ap (λ (o : Option LoadEnd). case_of st r.info r.count a.most o) c.case_without-otherwise.ensures in
    subst (IsFirstCase a.most stream a.fin a.reset) (sym e) first
