use mathlib.Core.Path.{sym, ◌∙◌}
use Rattle.kept_entries.specs.Above.{factor_pairs_all}
use Rattle.kept_entries.proofs.factor_pairs.Goals as goal

pub returns : goal.returns
returns g c = let none = sym c.has_above.ensures ∙ c.if-has_above.false in
    c.nonzero_between.ensures ∙ rw c.at.ensures (sym (factor_pairs_all c.requires.starts_rise none (g.T.StoredValue.kept c.args.values.now)))
