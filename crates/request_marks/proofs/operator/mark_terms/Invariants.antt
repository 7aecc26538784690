use Rattle.lists.specs.Test.{any_in}
use Rattle.marked_pairs.specs.MarkedPairs.{AlsoMarked}
use Rattle.pattern_lists.specs.PatternMarks.{term_set}
use Rattle.request_marks.proofs.operator.mark_terms.Given as goal

abbrev pub invariant-loop-b : goal.invariant-loop-b
invariant-loop-b l = AlsoMarked l.n (λ r c. any_in (λ b. term_set l.columns l.a b r c) l.s l.b) l.initial.scratch l.scratch l.count
