use Rattle.fill.proofs.KeptLaws.{unmarked_above, unmarked_zero, unmarked_kept}
use Rattle.pairs.proofs.Scratch.{queue_start_mark}
use Rattle.pairs.proofs.ColumnOrder.{column_place_below}
use native.Mathlib.Omega.{arith}
use Rattle.fill.proofs.kept_pattern.unmarked_entry.Goals as goal

pub returns-then-r-c : goal.returns-then-r-c
returns-then-r-c c = let b = c.args in
    unmarked_above b.n b.scratch.now b.c b.r b.l c.if-r-c.true

pub returns-then-l : goal.returns-then-l
returns-then-l c = let b = c.args in
    unmarked_zero b.n b.scratch.now b.c b.r b.l c.if-l.true

pub bit-requires : goal.bit-requires
bit-requires c = let n = c.args.n in
    let p = c.column_place.result in
    let l = column_place_below n c.args.r c.args.c c.if-r-c.false c.requires.1 in
    omega (arith, queue_start_mark n p (omega (arith, c.column_place.ensures, l)))

pub returns : goal.returns
returns c = let b = c.args in
    rw (c.bit.ensures, c.column_place.ensures)
    (unmarked_kept b.n b.scratch.now b.c b.r b.l c.if-r-c.false c.if-l.false)
