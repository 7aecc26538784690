use Rattle.pairs.specs.ColumnOrder.{column_marking, set_size}
use Rattle.entries.specs.Entries.{column_count}
use Rattle.whole_route.specs.ColumnSums.{MostFrom}
use Rattle.whole_route.proofs.ColumnLaws.{ColumnsLeft}
use mathlib.Core.Path.{◌≡◌}
use Rattle.whole_route.proofs.whole_selected_inverse.Given as goal

abbrev pub invariant-loop-j : goal.invariant-loop-j
invariant-loop-j l = (l.next ≡ column_count l.n (column_marking l.n l.scratch) l.j)
    × ColumnsLeft l.n l.j l.starts l.rows l.values l.scratch l.initial.work l.work
    × MostFrom l.next l.most (set_size l.n (column_marking l.n l.scratch)) l.work
