use Rattle.pairs.specs.Marks.{Added}
use Rattle.columns.specs.Kept.{nonzero}
use Rattle.pattern_lists.specs.PatternMarks.{columns_set}
use Rattle.pattern_lists.proofs.marking.mark_factor.Given as goal

abbrev pub invariant-loop-c : goal.invariant-loop-c
invariant-loop-c l = Added (columns_set l.starts l.rows (nonzero l.values) l.c) l.initial.marks l.marks
