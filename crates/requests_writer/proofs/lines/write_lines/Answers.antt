use Prim.Native.Nat.{ℕ, ◌<◌}
use mathlib.Core.List.{List}
use Rattle.requests_writer.specs.Lines.{Wrote}
use mathlib.Core.Bool.{Bool}
use native.Mathlib.Omega.{arith}
use Prim.Native.Nat.{◌≤◌, ◌+◌}
use mathlib.Core.Path.{◌≡◌, ap, sym}
use lib.ListN.{length}
use mathlib.Core.List.{◌++◌}
use lib.ListN.{length-append}
use Rattle.pairs.specs.ColumnOrder.{column_marking}
use Rattle.pairs.proofs.ColumnOrder.{col_start_none, col_start_next}
use Rattle.requests_writer.specs.Lines.{rows_bytes, columns_bytes}
use Rattle.requests_writer.proofs.ByteLaws.{wrote_none, wrote_more, wrote_cong, columns_none, columns_mono}
use Rattle.requests_writer.proofs.ColumnLaws.{column_input, rows_inside, columns_more, column_small}
use Rattle.requests_writer.proofs.lines.write_lines.Goals as goal

-- there is room for the column's lines
room_for : (n c : ℕ) (S : ℕ → ℕ → Bool) (rows : List ℕ) (start next : ℕ) (text₀ text : List ℕ) → c < n
    → columns_bytes n S c ++ rows_bytes c rows ≡ columns_bytes n S (c + 1)
    → start + length (columns_bytes n S n) ≤ length text₀
    → Wrote (columns_bytes n S c) start text₀ text next
    → length text ≡ length text₀
    → next + length (rows_bytes c rows) ≤ length text
room_for n c S rows start next text₀ text h more room W long =
    omega (arith, ap length more, columns_mono n S (c + 1) n (omega arith), length-append (columns_bytes n S c) (rows_bytes c rows), W.next_is)

pub loop-c-init : goal.loop-c-init
loop-c-init c = let a = c.args in
    record { wrote = wrote_cong (sym (columns_none a.n (column_marking a.n a.marks.now))) (wrote_none a.start a.text.now); place_is = sym (col_start_none _) }

pub list_bits-count-requires : goal.list_bits-count-requires
list_bits-count-requires c = let P = c.requires.0 in
    column_input _ _ _ _ P.small P.all c.loop-c.invariant.place_is c.loop-c-test.true _ (omega (arith, P.room, c.loop-c.auto.list))

pub write_rows-next-requires : goal.write_rows-next-requires
write_rows-next-requires c =
    let a = c.args in
    let l = c.loop-c in
    let P = c.requires.0 in
    let room : a.n ≤ length l.list = omega (arith, P.room, l.auto.list) in
    let more = columns_more _ _ _ _ P.small P.all l.invariant.place_is c.loop-c-test.true _ _ _ room c.list_bits-count.ensures in
    let behind = room_for a.n l.c (column_marking a.n a.marks.now) _ a.start l.next a.text.now l.text c.loop-c-test.true more c.requires.1 l.invariant.wrote l.auto.text in
    (rows_inside _ _ _ _ P.small P.all l.invariant.place_is c.loop-c-test.true _ _ _ room c.list_bits-count.ensures, behind)

pub overflow_add-place : goal.overflow_add-place
overflow_add-place c =
    let a = c.args in
    let l = c.loop-c in
    let P = c.requires.0 in
    omega (arith, column_small a.n a.marks.now l.c l.place P.small P.all l.invariant.place_is c.loop-c-test.true)

pub loop-c-preserved : goal.loop-c-preserved
loop-c-preserved c =
    let a = c.args in
    let l = c.loop-c in
    let P = c.requires.0 in
    let room : a.n ≤ length l.list = omega (arith, P.room, l.auto.list) in
    let more = columns_more _ _ _ _ P.small P.all l.invariant.place_is c.loop-c-test.true _ _ _ room c.list_bits-count.ensures in
    record {
      wrote = wrote_cong more (wrote_more (omega (arith, c.requires.1)) l.invariant.wrote c.write_rows-next.ensures);
      place_is = omega (arith, l.invariant.place_is, col_start_next a.n l.c);
    }
