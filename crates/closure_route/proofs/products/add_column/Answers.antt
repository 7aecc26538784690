use Prim.Native.Nat.{ℕ, ◌+◌, ◌<◌}
use native.Mathlib.Omega.{arith}
use mathlib.Core.Path.{◌≡◌, ap, ◌∙◌}
use lib.ListN.{length, get_or}
use Rattle.closure_route.specs.Run.{row_positions}
use Rattle.closure_route.proofs.ProductLaws.{column_rows_lem, rows_column, column_rises, column_run, run_column}
use Rattle.closure_route.proofs.products.add_column.Goals as goal

-- the word of the first row, and its position
first-inside : (c : goal.After-at) → c.column_base-base.result + c.at.result < length c.args.scratch.now
first-inside c =
    rw c.at.ensures ((column_rises c.requires c.column_base-base.result c.column_base-base.ensures).inside c.args.from (omega arith) c.requires.some)

first_is-After-add_run-arg-1 : (c : goal.After-add_run-arg-1) →
    let a = c.args in
    c.at-position.result ≡ row_positions c.column_base-base.result a.result_rows.now a.scratch.now a.from
first_is-After-add_run-arg-1 c =
    c.at-position.ensures ∙ ap (λ (k : ℕ). get_or c.args.scratch.now (c.column_base-base.result + k) 0) c.at.ensures

first_is-After-slice_known-then-is_run-1 : (c : goal.After-slice_known-then-is_run-1) →
    let a = c.args in
    c.at-position.result ≡ row_positions c.column_base-base.result a.result_rows.now a.scratch.now a.from
first_is-After-slice_known-then-is_run-1 c =
    c.at-position.ensures ∙ ap (λ (k : ℕ). get_or c.args.scratch.now (c.column_base-base.result + k) 0) c.at.ensures

pub add_rows-requires : goal.add_rows-requires
add_rows-requires c = column_rows_lem c.requires _ c.column_base-base.ensures

pub returns-then-last-from-lt-SHORT : goal.returns-then-last-from-lt-SHORT
returns-then-last-from-lt-SHORT c = rows_column c.requires _ c.column_base-base.ensures c.args.l c.add_rows.ensures

pub is_run-requires : goal.is_run-requires
is_run-requires c = column_rises c.requires _ c.column_base-base.ensures

pub overflow_add-base : goal.overflow_add-base
overflow_add-base c = omega (arith, first-inside c)

pub at-position-requires : goal.at-position-requires
at-position-requires c = first-inside c

pub add_run-requires : goal.add_run-requires
add_run-requires c = column_run c.requires _ c.column_base-base.ensures (c.is_run.ensures c.if-is_run.true) _ (first_is-After-add_run-arg-1 c)

pub add_rows-requires-else-is_run : goal.add_rows-requires-else-is_run
add_rows-requires-else-is_run c = column_rows_lem c.requires _ c.column_base-base.ensures

pub returns-then-is_run : goal.returns-then-is_run
returns-then-is_run c = run_column c.requires _ c.column_base-base.ensures (c.is_run.ensures c.if-is_run.true) _ (first_is-After-slice_known-then-is_run-1 c) c.args.l c.add_run.ensures

pub returns-else-is_run : goal.returns-else-is_run
returns-else-is_run c = rows_column c.requires _ c.column_base-base.ensures c.args.l c.add_rows-else-is_run.ensures
