-- The fragment is the last that is kept, and no tick passed behind it.
use Rattle.std.proofs.Common.{◌∙◌, [], fold, ap}
use Rattle.ip_core.specs.Pools.{open_at}
use Rattle.tap_core.specs.declared.early.Fragment.{Fragment}
use Rattle.tap_core.specs.Early.{after_kept}
use Rattle.tap_core.proofs.Kept.{left-next, fragments-next}
use Rattle.tap_core.proofs.early.Fragments.keep.Goals as goal

pub returns-clause-left : goal.returns-clause-left
returns-clause-left c = λ o.
    ap (λ l. open_at 0 (fold (after_kept o) [] l)) c.in_ok-push.ensures
    ∙ left-next o c.args.self.now.kept.items (record { passed = c.args.self.now.passed; «record» = c.args.«record» })

pub returns-clause-fragments : goal.returns-clause-fragments
returns-clause-fragments c = λ h here.
    let k : Fragment = record { passed = c.args.self.now.passed; «record» = c.args.«record» } in
    fragments-next c.args.self.now _ k h here c.in_ok-push.ensures c.later-self.ensures
