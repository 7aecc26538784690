use mathlib.Core.Path.{◌≡◌}
use mathlib.Core.Bool.{false}
use Rattle.lists.specs.Test.{any}
use Rattle.columns.specs.Kept.{nonzero, pattern}
use Rattle.levels.specs.Levels.{level_word}
use Rattle.levels.proofs.BackLaws.{either}
use Rattle.levels.proofs.chain.pair_before.Given as goal

abbrev pub invariant-loop-j : goal.invariant-loop-j
invariant-loop-j l = any (either (pattern l.starts l.rows (nonzero l.values)) (level_word l.n l.scratch) l.level l.r l.c) l.j ≡ false
