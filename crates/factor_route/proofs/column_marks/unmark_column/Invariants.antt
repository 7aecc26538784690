use Rattle.scatter.specs.Scatter.{unmarks}
use mathlib.Core.Path.{◌≡◌}
use Rattle.factor_route.proofs.column_marks.unmark_column.Given as goal

abbrev pub invariant-loop-p : goal.invariant-loop-p
invariant-loop-p l = l.marker ≡ unmarks l.rows l.a l.initial.marker l.p
