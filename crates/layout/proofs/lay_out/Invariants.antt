use mathlib.Core.Path.{◌≡◌}
use Rattle.pairs.specs.ColumnOrder.{col_start}
use Rattle.layout.proofs.LayoutLaws.{ColumnsLaid}
use Rattle.layout.proofs.lay_out.Given as goal

abbrev pub invariant-loop-c : goal.invariant-loop-c
invariant-loop-c l = (l.place ≡ col_start l.n l.c)
    × ColumnsLaid l.n l.c l.initial.result_starts l.initial.result_rows l.initial.scratch l.result_starts l.result_rows l.scratch l.count
