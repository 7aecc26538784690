use mathlib.Core.Path.{ap, sym, ◌∙◌}
use Rattle.refusal.specs.Steps.{answered}
use Rattle.columns.specs.Columns.{row}
use Rattle.result.proofs.Halving.{standing_here, standing_none}
use Rattle.column_search.proofs.halving.halve_for.Goals as goal

pub returns-then-h-r : goal.returns-then-h-r
returns-then-h-r c = let a = c.args in
    let h = c.halve-h in
    ap answered h.ensures.place_value ∙ sym (standing_here a.rows.now a.r _ (ap (row a.rows.now) (sym h.ensures.place_value) ∙ sym h.ensures.there_value ∙ c.if-h-r.true))

pub returns : goal.returns
returns c = let a = c.args in
    let h = c.halve-h in
    sym (standing_none a.rows.now a.r _ (λ q. c.if-h-r.false (h.ensures.there_value ∙ ap (row a.rows.now) h.ensures.place_value ∙ q)))
