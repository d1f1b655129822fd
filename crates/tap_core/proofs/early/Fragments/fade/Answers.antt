-- Where the time of the latest fragment's pool is over, no pool is open.
use Rattle.std.proofs.Common.{◌∙◌, [], fold, ap, sym, refl, arith}
use Rattle.ip_core.specs.Pools.{open_at}
use Rattle.tap_core.specs.Early.{after_kept}
use Rattle.tap_core.proofs.Kept.{left-fades, fragments-none}
use Rattle.tap_core.proofs.early.Fragments.fade.Goals as goal

pub returns-then-saturating_sub-ge-LIFETIME-clause-left : goal.returns-then-saturating_sub-ge-LIFETIME-clause-left
returns-then-saturating_sub-ge-LIFETIME-clause-left c = λ fragments o.
    ap (λ l. open_at c.args.now.0 (open_at 0 (fold (after_kept o) [] l))) c.clear.ensures.items
    ∙ sym (left-fades o c.args.self.now c.args.now.0 (omega (arith, c.if-saturating_sub-ge-LIFETIME.true, c.saturating_sub.ensures)) fragments)

pub returns-then-saturating_sub-ge-LIFETIME-clause-fragments : goal.returns-then-saturating_sub-ge-LIFETIME-clause-fragments
returns-then-saturating_sub-ge-LIFETIME-clause-fragments c = λ fragments. fragments-none _ c.clear.ensures.items refl
