use mathlib.Core.Path.{◌≡◌}
use Rattle.lists.specs.Overwrite.{filled}
use Rattle.pairs.specs.ColumnOrder.{col_start, column_marking}
use Rattle.entries.specs.Entries.{column_count}
use Rattle.layout.proofs.LayoutLaws.{ColumnsPlaced}
use Rattle.layout.proofs.firsts.lay_firsts.Given as goal

abbrev pub invariant-loop-c : goal.invariant-loop-c
invariant-loop-c l = (l.place ≡ col_start l.n l.c)
    × (l.firsts ≡ filled (column_count l.n (column_marking l.n l.initial.scratch)) l.c l.initial.firsts) × ColumnsPlaced l.n l.c l.initial.scratch l.scratch l.count
