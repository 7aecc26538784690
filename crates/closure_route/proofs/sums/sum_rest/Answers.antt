use Prim.Native.Nat.{ℕ, ◌+◌, ◌<◌}
use native.Mathlib.Omega.{arith}
use mathlib.Core.Path.{◌≡◌, ap, ◌∙◌}
use mathlib.Core.Bool.{false}
use lib.ListN.{length, get_or}
use borrow.Author.Tests.{not-true}
use Rattle.closure_route.specs.Run.{row_positions}
use Rattle.closure_route.proofs.RestLaws.{rows_input, rows_summed, rest_rises, run_input, run-summed}
use Rattle.std.specs.Prelude.{not}
use Rattle.closure_route.proofs.sums.sum_rest.Goals as goal

-- no value is 0.0
none-After-column_base-base : (d : goal.After-column_base-base) → d.args.zeros ≡ false
none-After-column_base-base d = not-true _ (ap not d.if-not-zeros.true)

-- no value is 0.0
none-After-at : (d : goal.After-at) → d.args.zeros ≡ false
none-After-at d = not-true _ (ap not d.if-not-zeros.true)

-- no value is 0.0
none-After-at-position : (d : goal.After-at-position) → d.args.zeros ≡ false
none-After-at-position d = not-true _ (ap not d.if-not-zeros.true)

-- no value is 0.0
none-After-sum_run : (d : goal.After-sum_run) → d.args.zeros ≡ false
none-After-sum_run d = not-true _ (ap not d.if-not-zeros.true)

-- no value is 0.0
none-Else-is_run : (d : goal.Else-is_run) → d.args.zeros ≡ false
none-Else-is_run d = not-true _ (ap not d.if-not-zeros.true)

-- no value is 0.0
none-After-sum_rows : (d : goal.After-sum_rows) → d.args.zeros ≡ false
none-After-sum_rows d = not-true _ (ap not d.if-not-zeros.true)

-- the word of the first row, and its position
first-inside : (c : goal.After-at) → c.column_base-base.result + c.at.result < length c.args.scratch.now
first-inside c =
    rw c.at.ensures ((rest_rises c.requires (none-After-at c) c.column_base-base.result c.column_base-base.ensures).inside c.args.first (omega arith) c.requires.some)

first_is-After-at-position : (c : goal.After-at-position) →
    let a = c.args in
    c.at-position.result ≡ row_positions c.column_base-base.result a.rows.now a.scratch.now a.first
first_is-After-at-position c =
    c.at-position.ensures ∙ ap (λ (k : ℕ). get_or c.args.scratch.now (c.column_base-base.result + k) 0) c.at.ensures

first_is-After-sum_run : (c : goal.After-sum_run) →
    let a = c.args in
    c.at-position.result ≡ row_positions c.column_base-base.result a.rows.now a.scratch.now a.first
first_is-After-sum_run c =
    c.at-position.ensures ∙ ap (λ (k : ℕ). get_or c.args.scratch.now (c.column_base-base.result + k) 0) c.at.ensures

pub column_base-base-requires : goal.column_base-base-requires
column_base-base-requires c = let S = c.requires.sum in (S.small, S.left)

pub is_run-requires : goal.is_run-requires
is_run-requires c = rest_rises c.requires (none-After-column_base-base c) _ c.column_base-base.ensures

pub at-requires : goal.at-requires
at-requires c = omega (arith, c.requires.some, c.requires.sum.column.stored)

pub overflow_add-base : goal.overflow_add-base
overflow_add-base c = omega (arith, first-inside c)

pub at-position-requires : goal.at-position-requires
at-position-requires c = first-inside c

pub sum_run-requires : goal.sum_run-requires
sum_run-requires c = run_input c.requires (none-After-at-position c) _ c.column_base-base.ensures (c.is_run.ensures c.if-is_run.true) _ (first_is-After-at-position c)

pub returns-then-is_run : goal.returns-then-is_run
returns-then-is_run c = run-summed c.requires (none-After-sum_run c) _ c.column_base-base.ensures (c.is_run.ensures c.if-is_run.true) _ (first_is-After-sum_run c)
    c.args.result_values.now c.args.start c.sum_run.result c.sum_run.ensures

pub sum_rows-requires : goal.sum_rows-requires
sum_rows-requires c = rows_input c.requires (none-Else-is_run c) _ c.column_base-base.ensures

pub returns-then-not-zeros : goal.returns-then-not-zeros
returns-then-not-zeros c = rows_summed c.requires (none-After-sum_rows c) _ c.column_base-base.ensures c.args.result_values.now c.args.start c.sum_rows.result c.sum_rows.ensures

pub sum_from-requires : goal.sum_from-requires
sum_from-requires c = c.requires.sum

pub returns : goal.returns
returns c = c.sum_from.ensures
