use Prim.Native.Nat.{ℕ, ◌+◌}
use native.Mathlib.Omega.{arith}
use mathlib.Core.Path.{sym, subst₂, ◌∙◌}
use Rattle.pairs.specs.Marks.{Added}
use Rattle.columns.specs.Columns as columns
use Rattle.pattern_lists.specs.PatternMarks.{MarkTermsInput, row_set}
use Rattle.pattern_lists.proofs.PatternMarks.{row_fits, below_none, below_more}
use Rattle.pattern_lists.proofs.marking.mark_operator.Goals as goal

pub loop-i-init : goal.loop-i-init
loop-i-init c = let a = c.args in
    below_none a.marks.now (λ i. row_set a.columns.now (columns.start a.row_starts.now i) (columns.start a.row_starts.now (i + 1)))

pub mark_row-requires : goal.mark_row-requires
mark_row-requires c = let l = c.loop-i in
    subst₂ (λ (x y : ℕ). MarkTermsInput c.args.columns.now x y l.marks) (sym c.at.ensures) (sym c.at-in-loop-i.ensures)
    (row_fits c.requires.operator_rows c.requires.n_le_max_dimension.0 l.marks (l.auto.marks ∙ c.requires.n_le_max_dimension.1) l.i (omega (arith, c.loop-i-test.true, c.operator_rows-last.ensures)))

pub loop-i-preserved : goal.loop-i-preserved
loop-i-preserved c = let l = c.loop-i in
    let a = c.args in
    let step = subst₂ (λ (x y : ℕ). Added (row_set a.columns.now x y) l.marks c.mark_row.new.marks) c.at.ensures c.at-in-loop-i.ensures c.mark_row.ensures in below_more (λ i. row_set a.columns.now (columns.start a.row_starts.now i) (columns.start a.row_starts.now (i + 1))) l.i l.invariant step
