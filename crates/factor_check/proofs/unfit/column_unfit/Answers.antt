use mathlib.Core.Path.{◌∙◌}
use Rattle.factor_check.proofs.KeptLaws.{kept_from}
use Rattle.factor_check.proofs.unfit.column_unfit.Goals as goal

pub returns : goal.returns
returns g c = let values = c.args.values.now in
    c.unfit_between.ensures
    ∙ kept_from (g.T.StoredValue.kept values) (g.T.CheckedValue.unfit values) (g.met.T.CheckedValue.unfit_kept values) c.requires c.first_from-first.ensures
