use Prim.Native.Nat.{ℕ, ◌+◌}
use native.Mathlib.Omega.{arith}
use mathlib.Core.Path.{subst}
use lib.ListN.{get_or}
use lib.Ieee.{nan}
use Rattle.columns.specs.Columns.{row}
use Rattle.columns.specs.Factor.{FirstFrom}
use Rattle.closure_route.specs.Column.{SumColumn, sum_column, sum_terms}
use Rattle.closure_route.specs.Sums.{SumContinued}
use Rattle.closure_route.proofs.UpperLaws.{rest_none, rest_set}
use Rattle.closure_route.proofs.stored_sums.add_rest.Goals as goal

-- the column, at the sum
abbrev column-After-sum_rest-sum : goal.After-sum_rest-sum → SumColumn
column-After-sum_rest-sum s =
    let a = s.args in
    sum_column a.n a.j a.q (a.q + 1) a.p a.e a.rows.now a.values.now a.result_rows.now a.scratch.now

-- the column, at the sum
abbrev column-Else-from-e : goal.Else-from-e → SumColumn
column-Else-from-e s =
    let a = s.args in
    sum_column a.n a.j a.q (a.q + 1) a.p a.e a.rows.now a.values.now a.result_rows.now a.scratch.now

-- where the greater rows start
from-After-slice_known-then-from-e-1 : (c : goal.After-slice_known-then-from-e-1) →
    let a = c.args in
    FirstFrom (row a.result_rows.now a.q + 1) a.rows.now a.p a.e c.first_from-from.result
from-After-slice_known-then-from-e-1 c =
    let a = c.args in
    subst (λ (k : ℕ). FirstFrom (k + 1) a.rows.now a.p a.e c.first_from-from.result) c.at-i.ensures c.first_from-from.ensures

-- where the greater rows start
from-After-sum_rest-sum : (c : goal.After-sum_rest-sum) →
    let a = c.args in
    FirstFrom (row a.result_rows.now a.q + 1) a.rows.now a.p a.e c.first_from-from.result
from-After-sum_rest-sum c =
    let a = c.args in
    subst (λ (k : ℕ). FirstFrom (k + 1) a.rows.now a.p a.e c.first_from-from.result) c.at-i.ensures c.first_from-from.ensures

-- where the greater rows start
from-Else-from-e : (c : goal.Else-from-e) →
    let a = c.args in
    FirstFrom (row a.result_rows.now a.q + 1) a.rows.now a.p a.e c.first_from-from.result
from-Else-from-e c =
    let a = c.args in
    subst (λ (k : ℕ). FirstFrom (k + 1) a.rows.now a.p a.e c.first_from-from.result) c.at-i.ensures c.first_from-from.ensures

pub overflow_add-i : goal.overflow_add-i
overflow_add-i c = let P = c.requires in omega (arith, c.at-i.ensures, P.inside, P.small)

pub sum_rest-sum-requires : goal.sum_rest-sum-requires
sum_rest-sum-requires c = rw c.at-i.ensures (c.requires.rest c.first_from-from.result (from-After-slice_known-then-from-e-1 c) c.if-from-e.true)

pub returns-then-from-e : goal.returns-then-from-e
returns-then-from-e c = let a = c.args in
    let z = a.result_values.now in
    let t = sum_terms a.n a.j c.first_from-from.result a.e a.rows.now a.values.now a.scratch.now in
    rest_set (column-After-sum_rest-sum c) (from-After-sum_rest-sum c) z c.sum_rest-sum.result c.requires.fits
    (subst (λ (k : ℕ). SumContinued t z k (get_or z a.q nan) c.sum_rest-sum.result) c.at-i.ensures c.sum_rest-sum.ensures)

pub returns-else-from-e : goal.returns-else-from-e
returns-else-from-e c = rest_none (column-Else-from-e c) (from-Else-from-e c) c.args.result_values.now c.if-from-e.false
