-- The stage after the record stands for the records with it.
use Rattle.std.proofs.Common.{◌∷◌, ◌++◌, [], sym, subst}
use Rattle.tap_core.specs.Tapping.{StandsFor}
use Rattle.tap_core.proofs.tapping.Tap.hear.Goals as goal

pub returns-clause-heard : goal.returns-clause-heard
returns-clause-heard c = λ most records h.
    let tap = c.args.self.now in
    let before = subst (λ m. StandsFor m records tap.stage) (sym h.most_is) h.stands in
    let taken = subst (StandsFor tap.most records) (sym c.replace-stage.ensures.value) before in
    record {
      most_is = h.most_is;
      stands = subst (λ m. StandsFor m (records ++ c.args.«record» ∷ []) c.in_ok-self.field-0) h.most_is (c.in_ok-self.ensures.stands records taken);
    }
