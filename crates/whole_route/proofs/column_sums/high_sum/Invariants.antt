use mathlib.Core.Path.{◌≡◌}
use Rattle.whole_route.specs.ColumnSums.{sum_from, word_term}
use Rattle.whole_route.proofs.column_sums.high_sum.Given as goal

abbrev pub invariant-loop-p : goal.invariant-loop-p
invariant-loop-p l = l.total ≡ sum_from (word_term l.base l.rows l.values l.scratch l.work) l.f l.p
