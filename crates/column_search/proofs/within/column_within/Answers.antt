use mathlib.Core.Path.{ap₂, sym, ◌∙◌}
use Rattle.result.specs.Halving.{halved_place}
use Rattle.result.proofs.Halving.{column_within_rows, column_within_values, column_within_place}
use Rattle.column_search.proofs.within.column_within.Goals as goal

pub returns-then-rows-e : goal.returns-then-rows-e
returns-then-rows-e c = let a = c.args in
    sym (column_within_rows a.starts.now a.rows.now a.values a.r a.c (rw c.at-e.ensures at c.if-rows-e.true))

pub returns-then-values-e : goal.returns-then-values-e
returns-then-values-e c = let a = c.args in
    sym (column_within_values a.starts.now a.rows.now a.values a.r a.c (rw c.at-e.ensures at c.if-rows-e.false) (rw c.at-e.ensures at c.if-values-e.true))

pub returns : goal.returns
returns c = let a = c.args in
    c.find_by_halving.ensures
    ∙ ap₂ (halved_place a.rows.now a.r) c.at.ensures c.at-e.ensures
    ∙ sym (column_within_place a.starts.now a.rows.now a.values a.r a.c (rw c.at-e.ensures at c.if-rows-e.false) (rw c.at-e.ensures at c.if-values-e.false))
