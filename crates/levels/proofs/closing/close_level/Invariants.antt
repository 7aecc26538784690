use Rattle.lists.specs.Test.{any_in}
use Rattle.columns.specs.Kept.{nonzero, pattern}
use Rattle.levels.specs.Levels.{level_queue, Raised}
use Rattle.levels.specs.Closing.{word_depends}
use Rattle.levels.proofs.closing.close_level.Given as goal

abbrev pub invariant-loop-j : goal.invariant-loop-j
invariant-loop-j l = Raised l.n l.level (λ x y. any_in (λ i. word_depends (pattern l.starts l.rows (nonzero l.values)) (level_queue l.n l.initial.scratch i) x y) l.lo l.j) l.initial.scratch l.hi l.scratch l.count
