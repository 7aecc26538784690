use Prim.Native.Nat.{ℕ, ◌<◌}
use native.Mathlib.Omega.{arith}
use mathlib.Core.Path.{◌≡◌, subst}
use mathlib.Core.Bool.{true}
use lib.Dec.{ltb}
use borrow.Author.Tests.{lt-ltb}
use Rattle.lists.specs.Test.{and_both}
use Rattle.columns.specs.Columns.{row}
use Rattle.columns.specs.Kept.{nonzero, kept_below}
use Rattle.columns.proofs.Kept.{nonzero-not}
use Rattle.columns.specs.Factor.{FirstFrom}
use Rattle.closure_route.proofs.LowerLaws.{product_above, product_zero, product_none, product_added, product_input}
use Rattle.closure_route.proofs.stored_sums.add_stored.Goals as goal

-- the entry is below the diagonal
under-Then-l : (c : goal.Then-l) → let a = c.args in a.j < row a.rows.now a.p
under-Then-l c = omega (arith, c.if-k-j.false, c.at-k.ensures)

-- the entry is below the diagonal
under-After-add_column-arg-1 : (c : goal.After-add_column-arg-1) → let a = c.args in a.j < row a.rows.now a.p
under-After-add_column-arg-1 c = omega (arith, c.if-k-j.false, c.at-k.ensures)

-- the entry is below the diagonal
under-After-slice_known-then-from-last-1 : (c : goal.After-slice_known-then-from-last-1) → let a = c.args in a.j < row a.rows.now a.p
under-After-slice_known-then-from-last-1 c = omega (arith, c.if-k-j.false, c.at-k.ensures)

-- where the sums start whose row is not less
from-Then-l : (c : goal.Then-l) →
    let a = c.args in
    FirstFrom (row a.rows.now a.p) a.result_rows.now a.q a.last c.first_from-from.result
from-Then-l c =
    let a = c.args in
    subst (λ (k : ℕ). FirstFrom k a.result_rows.now a.q a.last c.first_from-from.result) c.at-k.ensures c.first_from-from.ensures

-- where the sums start whose row is not less
from-After-add_column-arg-1 : (c : goal.After-add_column-arg-1) →
    let a = c.args in
    FirstFrom (row a.rows.now a.p) a.result_rows.now a.q a.last c.first_from-from.result
from-After-add_column-arg-1 c =
    let a = c.args in
    subst (λ (k : ℕ). FirstFrom k a.result_rows.now a.q a.last c.first_from-from.result) c.at-k.ensures c.first_from-from.ensures

-- where the sums start whose row is not less
from-After-slice_known-then-from-last-1 : (c : goal.After-slice_known-then-from-last-1) →
    let a = c.args in
    FirstFrom (row a.rows.now a.p) a.result_rows.now a.q a.last c.first_from-from.result
from-After-slice_known-then-from-last-1 c =
    let a = c.args in
    subst (λ (k : ℕ). FirstFrom k a.result_rows.now a.q a.last c.first_from-from.result) c.at-k.ensures c.first_from-from.ensures

-- where the sums start whose row is not less
from-Else-from-last : (c : goal.Else-from-last) →
    let a = c.args in
    FirstFrom (row a.rows.now a.p) a.result_rows.now a.q a.last c.first_from-from.result
from-Else-from-last c =
    let a = c.args in
    subst (λ (k : ℕ). FirstFrom k a.result_rows.now a.q a.last c.first_from-from.result) c.at-k.ensures c.first_from-from.ensures

-- past both tests it is kept
kept-After-add_column-arg-1 : (c : goal.After-add_column-arg-1) →
    let a = c.args in
    kept_below a.rows.now (nonzero a.values.now) a.j a.p ≡ true
kept-After-add_column-arg-1 c =
    let a = c.args in
    let k = row a.rows.now a.p in
    and_both (ltb a.j k) (nonzero a.values.now a.p) (lt-ltb a.j k (under-After-add_column-arg-1 c)) (nonzero-not a.values.now a.p c.if-l.false)

-- past both tests it is kept
kept-After-slice_known-then-from-last-1 : (c : goal.After-slice_known-then-from-last-1) →
    let a = c.args in
    kept_below a.rows.now (nonzero a.values.now) a.j a.p ≡ true
kept-After-slice_known-then-from-last-1 c =
    let a = c.args in
    let k = row a.rows.now a.p in
    and_both (ltb a.j k) (nonzero a.values.now a.p) (lt-ltb a.j k (under-After-slice_known-then-from-last-1 c)) (nonzero-not a.values.now a.p c.if-l.false)

pub returns-then-k-j : goal.returns-then-k-j
returns-then-k-j c = product_above c.requires c.args.result_values.now (omega (arith, c.at-k.ensures, c.if-k-j.true))

pub returns-then-l : goal.returns-then-l
returns-then-l c = product_zero c.requires (from-Then-l c) c.args.result_values.now (under-Then-l c) (nonzero-not c.args.values.now c.args.p c.if-l.true)

pub add_column-requires : goal.add_column-requires
add_column-requires c = rw c.at-k.ensures (product_input c.requires (from-After-add_column-arg-1 c) c.if-from-last.true (kept-After-add_column-arg-1 c))

pub returns-then-from-last : goal.returns-then-from-last
returns-then-from-last c = product_added c.requires (from-After-slice_known-then-from-last-1 c) (kept-After-slice_known-then-from-last-1 c) (rw c.at-k.ensures at c.add_column.ensures)

pub returns-else-from-last : goal.returns-else-from-last
returns-else-from-last c = product_none c.requires (from-Else-from-last c) c.args.result_values.now c.if-from-last.false
