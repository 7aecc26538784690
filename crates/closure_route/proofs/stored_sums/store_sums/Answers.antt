use native.Mathlib.Omega.{arith}
use Prim.Native.Nat.{ℕ}
use mathlib.Core.Path.{subst, sym}
use lib.ListN.{length}
use Rattle.closure_route.specs.Column.{SumColumn, sum_column}
use Rattle.closure_route.specs.Stored.{SumsInput, SumsStored}
use Rattle.closure_route.proofs.StoredLaws.{column_from, from_sums, from_stored, none_stored}
use Rattle.closure_route.proofs.stored_sums.store_sums.Goals as goal

-- the column
abbrev column-Then-last-from : goal.Then-last-from → SumColumn
column-Then-last-from f =
    let a = f.args in
    sum_column a.n a.j a.first a.last a.s a.e a.rows.now a.values.now a.result_rows.now a.scratch.now

-- the column
abbrev column-After-store_row-arg-1 : goal.After-store_row-arg-1 → SumColumn
column-After-store_row-arg-1 f =
    let a = f.args in
    sum_column a.n a.j a.first a.last a.s a.e a.rows.now a.values.now a.result_rows.now a.scratch.now

-- the column
abbrev column-After-slice_known-then-from-last-1 : goal.After-slice_known-then-from-last-1 → SumColumn
column-After-slice_known-then-from-last-1 f =
    let a = f.args in
    sum_column a.n a.j a.first a.last a.s a.e a.rows.now a.values.now a.result_rows.now a.scratch.now

-- the column
abbrev column-After-store_rows-arg-1 : goal.After-store_rows-arg-1 → SumColumn
column-After-store_rows-arg-1 f =
    let a = f.args in
    sum_column a.n a.j a.first a.last a.s a.e a.rows.now a.values.now a.result_rows.now a.scratch.now

-- the column
abbrev column-After-slice_known-2-1 : goal.After-slice_known-2-1 → SumColumn
column-After-slice_known-2-1 f =
    let a = f.args in
    sum_column a.n a.j a.first a.last a.s a.e a.rows.now a.values.now a.result_rows.now a.scratch.now

-- the sums from the first row below the diagonal on
sums-After-store_row-arg-1 : (t : goal.After-store_row-arg-1) → SumsInput (column_from (column-After-store_row-arg-1 t) t.first_from-from.result) (length t.args.result_values.now)
sums-After-store_row-arg-1 t = from_sums (column-After-store_row-arg-1 t) t.first_from-from.ensures t.requires (omega (arith, t.if-last-from.false))

-- the sums from the first row below the diagonal on
sums-After-store_rows-arg-1 : (t : goal.After-store_rows-arg-1) → SumsInput (column_from (column-After-store_rows-arg-1 t) t.first_from-from.result) (length t.args.result_values.now)
sums-After-store_rows-arg-1 t = from_sums (column-After-store_rows-arg-1 t) t.first_from-from.ensures t.requires (omega (arith, t.if-last-from.false))

-- the column from there to a place
abbrev column_to-After-store_row-arg-1 : goal.After-store_row-arg-1 → ℕ → SumColumn
column_to-After-store_row-arg-1 f last =
    let a = f.args in
    sum_column a.n a.j f.first_from-from.result last a.s a.e a.rows.now a.values.now a.result_rows.now a.scratch.now

-- the column from there to a place
abbrev column_to-After-slice_known-then-from-last-1 : goal.After-slice_known-then-from-last-1 → ℕ → SumColumn
column_to-After-slice_known-then-from-last-1 f last =
    let a = f.args in
    sum_column a.n a.j f.first_from-from.result last a.s a.e a.rows.now a.values.now a.result_rows.now a.scratch.now

pub overflow_add-j : goal.overflow_add-j
overflow_add-j c = let P = c.requires in omega (arith, P.inside, P.small)

pub returns-then-last-from : goal.returns-then-last-from
returns-then-last-from c = none_stored (column-Then-last-from c) c.first_from-from.ensures c.args.result_values.now c.if-last-from.true

pub store_row-requires : goal.store_row-requires
store_row-requires c = subst (λ (last : ℕ). SumsInput (column_to-After-store_row-arg-1 c last) (length c.args.result_values.now)) (sym c.if-from-last.true) (sums-After-store_row-arg-1 c)

pub returns-then-from-last : goal.returns-then-from-last
returns-then-from-last c = from_stored (column-After-slice_known-then-from-last-1 c) c.first_from-from.ensures
    (subst (λ (last : ℕ). SumsStored (column_to-After-slice_known-then-from-last-1 c last) c.args.result_values.now c.store_row.new.result_values) c.if-from-last.true c.store_row.ensures)

pub store_rows-requires : goal.store_rows-requires
store_rows-requires c = (sums-After-store_rows-arg-1 c, omega (arith, c.if-last-from.false))

pub returns : goal.returns
returns c = from_stored (column-After-slice_known-2-1 c) c.first_from-from.ensures c.store_rows.ensures
