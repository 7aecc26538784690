use Prim.Native.Nat.{ℕ, ◌+◌}
use mathlib.Core.Path.{sym, subst₂, ◌∙◌}
use lib.ListN.{length}
use Rattle.pairs.specs.Marks.{Added}
use Rattle.columns.specs.Columns as columns
use Rattle.columns.specs.Kept.{nonzero}
use Rattle.pattern_lists.specs.PatternMarks.{MarkColumnInput, column_set}
use Rattle.pattern_lists.proofs.PatternMarks.{column_fits, below_none, below_more}
use Rattle.pattern_lists.proofs.marking.mark_factor.Goals as goal

pub loop-c-init : goal.loop-c-init
loop-c-init c = let a = c.args in
    below_none a.marks.now (λ c. column_set a.rows.now (nonzero a.values.now) c (columns.start a.starts.now c) (columns.start a.starts.now (c + 1)))

pub mark_column-requires : goal.mark_column-requires
mark_column-requires c = let l = c.loop-c in
    subst₂ (λ (x y : ℕ). MarkColumnInput l.c c.args.rows.now (length c.args.values.now) x y l.marks) (sym c.at.ensures) (sym c.at-in-loop-c.ensures)
    (column_fits c.requires.factor c.requires.n_le_max_dimension.0 l.marks (l.auto.marks ∙ c.requires.n_le_max_dimension.1) l.c c.loop-c-test.true)

pub loop-c-preserved : goal.loop-c-preserved
loop-c-preserved c = let l = c.loop-c in
    let a = c.args in
    let step = subst₂ (λ (x y : ℕ). Added (column_set a.rows.now (nonzero a.values.now) l.c x y) l.marks c.mark_column.new.marks) c.at.ensures c.at-in-loop-c.ensures c.mark_column.ensures in below_more (λ c. column_set a.rows.now (nonzero a.values.now) c (columns.start a.starts.now c) (columns.start a.starts.now (c + 1))) l.c l.invariant step
