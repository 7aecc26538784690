use native.Mathlib.Omega.{arith}
use mathlib.Core.Path.{◌≡◌, sym, ap, ◌∙◌}
use mathlib.Core.Bool.{Bool}
use lib.Ieee.{Float}
use lib.ListN.{set}
use borrow.Author.Tests.{eq-eqb, ne_eqb}
use Rattle.columns.specs.Columns.{row}
use Rattle.exact.specs.PivotCase.{step_on}
use Rattle.last_steps.specs.DivisorParts.{is_pivot, number}
use Rattle.closure_route.specs.Column.{sum_terms}
use Rattle.closure_route.specs.Sums.{entry_sum}
use Rattle.closure_route.specs.Finish.{put_if}
use Rattle.closure_route.proofs.finish.store_diagonal.Goals as goal

-- the row is that of the diagonal
own-Else-at-j : (c : goal.Else-at-j) → let a = c.args in row a.result_rows.now a.q ≡ a.j
own-Else-at-j c = omega (arith, c.at.ensures, c.if-at-j.false)

-- the row is that of the diagonal
own-After-entry_on_diagonal : (c : goal.After-entry_on_diagonal) → let a = c.args in row a.result_rows.now a.q ≡ a.j
own-After-entry_on_diagonal c = omega (arith, c.at.ensures, c.if-at-j.false)

-- the entry on the diagonal
abbrev entry_of-Then-at-j : goal.Then-at-j → Float
entry_of-Then-at-j s =
    let a = s.args in
    step_on (is_pivot a.divisor) (number a.divisor) (entry_sum (sum_terms a.n a.j a.s a.e a.rows.now a.values.now a.scratch.now) a.result_values.now a.j)

-- the entry on the diagonal
abbrev entry_of-After-entry_on_diagonal : goal.After-entry_on_diagonal → Float
entry_of-After-entry_on_diagonal s =
    let a = s.args in
    step_on (is_pivot a.divisor) (number a.divisor) (entry_sum (sum_terms a.n a.j a.s a.e a.rows.now a.values.now a.scratch.now) a.result_values.now a.j)

pub returns-then-at-j : goal.returns-then-at-j
returns-then-at-j c = let a = c.args in
    ap (λ (b : Bool). put_if b a.result_values.now a.q (entry_of-Then-at-j c))
    (sym (ne_eqb (row a.result_rows.now a.q) a.j (λ e. c.if-at-j.true (c.at.ensures ∙ e))))

pub entry_sum-sum-requires : goal.entry_sum-sum-requires
entry_sum-sum-requires c = c.requires.sum (own-Else-at-j c)

pub returns : goal.returns
returns c = let a = c.args in
    ap (set a.result_values.now a.q) (c.entry_on_diagonal.ensures ∙ ap (step_on (is_pivot a.divisor) (number a.divisor)) c.entry_sum-sum.ensures)
    ∙ ap (λ (b : Bool). put_if b a.result_values.now a.q (entry_of-After-entry_on_diagonal c)) (sym (eq-eqb (row a.result_rows.now a.q) a.j (own-After-entry_on_diagonal c)))
