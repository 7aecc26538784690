use Rattle.lists.specs.Test.{any_in}
use Rattle.pairs.specs.Marks.{Added}
use Rattle.pattern_lists.specs.PatternMarks.{term_set}
use Rattle.pattern_lists.proofs.marking.mark_terms.Given as goal

abbrev pub invariant-loop-b : goal.invariant-loop-b
invariant-loop-b l = Added (λ r c. any_in (λ b. term_set l.columns l.a b r c) l.s l.b) l.initial.marks l.marks
