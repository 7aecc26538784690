use mathlib.Core.Path.{ap₂, ◌∙◌}
use Rattle.result.specs.Halving.{place_within}
use Rattle.column_search.proofs.within.pair_place_within.Goals as goal

pub returns : goal.returns
returns c = let a = c.args in
    c.ordered_place_within.ensures ∙ ap₂ (place_within a.starts.now a.rows.now a.values) c.max.ensures c.min.ensures
