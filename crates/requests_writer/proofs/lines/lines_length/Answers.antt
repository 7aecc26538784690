use native.Mathlib.Omega.{arith}
use Prim.Native.Nat.{ℕ, ◌≤◌, ◌+◌}
use mathlib.Core.Path.{◌≡◌, ap, sym, ◌∙◌}
use lib.ListN.{length}
use lib.ListN.{take, length-append}
use Rattle.pairs.specs.ColumnOrder.{column_marking}
use Rattle.pairs.proofs.ColumnOrder.{col_start_none, col_start_next}
use Rattle.requests_writer.specs.Lines.{rows_bytes, columns_bytes}
use Rattle.requests_writer.proofs.ByteLaws.{columns_none}
use Rattle.requests_writer.proofs.ColumnLaws.{column_input, rows_inside, columns_more, pairs_more, pairs_most, column_small}
use Rattle.requests_writer.proofs.lines.lines_length.Goals as goal

pub loop-c-init : goal.loop-c-init
loop-c-init c = record { total_is = sym (ap length (columns_none _ _)); most = omega arith; place_is = sym (col_start_none _) }

pub list_bits-count-requires : goal.list_bits-count-requires
list_bits-count-requires c = let P = c.requires in
    column_input _ _ _ _ P.small P.all c.loop-c.invariant.place_is c.loop-c-test.true _ (omega (arith, P.room, c.loop-c.auto.list))

pub rows_length-total-requires : goal.rows_length-total-requires
rows_length-total-requires c =
    let l = c.loop-c in
    let P = c.requires in
    let room : c.args.n ≤ length l.list = omega (arith, P.room, l.auto.list) in
    rows_inside _ _ _ _ P.small P.all l.invariant.place_is c.loop-c-test.true _ _ _ room c.list_bits-count.ensures

pub overflow_add-total : goal.overflow_add-total
overflow_add-total c =
    let l = c.loop-c in
    let P = c.requires in
    let room : c.args.n ≤ length l.list = omega (arith, P.room, l.auto.list) in
    let most = pairs_most c.args.n (column_marking c.args.n c.args.marks.now) (l.c + 1) P.small (omega (arith, c.loop-c-test.true)) in
    omega (arith, l.invariant.most, c.rows_length-total.ensures.1, most, pairs_more _ _ _ _ P.small P.all l.invariant.place_is c.loop-c-test.true _ _ _ room c.list_bits-count.ensures)

pub overflow_add-place : goal.overflow_add-place
overflow_add-place c =
    let l = c.loop-c in
    let P = c.requires in
    omega (arith, column_small c.args.n c.args.marks.now l.c l.place P.small P.all l.invariant.place_is c.loop-c-test.true)

pub loop-c-preserved : goal.loop-c-preserved
loop-c-preserved c =
    let a = c.args in
    let l = c.loop-c in
    let P = c.requires in
    let room : c.args.n ≤ length l.list = omega (arith, P.room, l.auto.list) in
    let e = ap length (columns_more _ _ _ _ P.small P.all l.invariant.place_is c.loop-c-test.true _ _ _ room c.list_bits-count.ensures) in
    let more = pairs_more _ _ _ _ P.small P.all l.invariant.place_is c.loop-c-test.true _ _ _ room c.list_bits-count.ensures in
    record {
      total_is = omega (arith, l.invariant.total_is, c.rows_length-total.ensures.0, e, length-append (columns_bytes a.n (column_marking a.n a.marks.now) l.c) (rows_bytes l.c (take c.list_bits-count.result c.list_bits-count.new.list)));
      most = omega (arith, l.invariant.most, c.rows_length-total.ensures.1, more);
      place_is = omega (arith, l.invariant.place_is, col_start_next a.n l.c);
    }

pub returns : goal.returns
returns c = let l = c.loop-c in
    let e : l.c ≡ c.args.n = omega (arith, c.loop-c-test.false, l.auto.c-end) in
    (l.invariant.total_is ∙ ap (λ (k : ℕ). length (columns_bytes c.args.n (column_marking c.args.n c.args.marks.now) k)) e, omega (arith, l.invariant.most, pairs_most c.args.n (column_marking c.args.n c.args.marks.now) l.c c.requires.small l.auto.c-end))
