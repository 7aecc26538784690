use native.Mathlib.Omega.{arith}
use mathlib.Core.Path.{◌≡◌, ap, sym, ◌∙◌}
use mathlib.Core.Bool.{Bool, not, ◌||◌}
use Rattle.lists.specs.Test.{any_in}
use Rattle.pairs.proofs.Scratch.{queue_start_mark}
use Rattle.pairs.specs.ColumnOrder.{column_marking}
use Rattle.pairs.proofs.ColumnOrder.{column_place_below}
use Rattle.fill.specs.KeptPattern.{unmarked_at}
use Rattle.fill.proofs.kept_pattern.unmarked_pattern.Goals as goal

-- the bit is the mark of the diagonal
mark-Then-not-bit : (b : goal.Then-not-bit) → let a = b.args in b.bit.result ≡ column_marking a.n a.scratch.now a.c a.c
mark-Then-not-bit b = rw b.column_place.ensures at b.bit.ensures

-- the bit is the mark of the diagonal
mark-After-unmarked_column : (b : goal.After-unmarked_column) → let a = b.args in b.bit.result ≡ column_marking a.n a.scratch.now a.c a.c
mark-After-unmarked_column b = rw b.column_place.ensures at b.bit.ensures

-- what the call ensures, by whether the diagonal is not marked
abbrev tells-Then-not-bit : goal.Then-not-bit → Bool → Bool
tells-Then-not-bit s m = let a = s.args in m || any_in (unmarked_at a.n a.scratch.now a.rows.now a.values.now a.c) a.s a.e

-- what the call ensures, by whether the diagonal is not marked
abbrev tells-After-unmarked_column : goal.After-unmarked_column → Bool → Bool
tells-After-unmarked_column s m = let a = s.args in m || any_in (unmarked_at a.n a.scratch.now a.rows.now a.values.now a.c) a.s a.e

pub bit-requires : goal.bit-requires
bit-requires c = let l = column_place_below c.args.n c.args.c c.args.c (omega arith) c.requires.1 in
    omega (arith, c.requires.0.room, queue_start_mark c.args.n c.column_place.result (omega (arith, c.column_place.ensures, l)))

pub returns-then-not-bit : goal.returns-then-not-bit
returns-then-not-bit c = sym (ap (tells-Then-not-bit c) (sym (ap not (mark-Then-not-bit c)) ∙ (ap not c.if-not-bit.true)))

pub returns : goal.returns
returns c = c.unmarked_column.ensures ∙ sym (ap (tells-After-unmarked_column c) (sym (ap not (mark-After-unmarked_column c)) ∙ (ap not c.if-not-bit.false)))
