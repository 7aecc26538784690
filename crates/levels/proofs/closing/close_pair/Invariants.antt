use Prim.Native.Nat.{ℕ}
use mathlib.Core.Bool.{Bool, ◌&&◌}
use mathlib.Core.List.{List}
use lib.Ieee.{Float}
use Rattle.lists.specs.Test.{any_in}
use Rattle.pairs.specs.Pair.{ordered}
use Rattle.columns.specs.Columns.{row}
use Rattle.columns.specs.Kept.{nonzero, kept_below}
use Rattle.levels.specs.Levels.{Raised}
use Rattle.levels.proofs.closing.close_pair.Given as goal

-- (x, y) is the dependency that the entry at p gives (r, c)
abbrev pub entry_depends : List ℕ → List Float → ℕ → ℕ → ℕ → ℕ → ℕ → Bool
entry_depends rows values r c p x y = kept_below rows (nonzero values) c p && ordered r (row rows p) x y

abbrev pub invariant-loop-p : goal.invariant-loop-p
invariant-loop-p l = Raised l.n l.level (λ x y. any_in (λ q. entry_depends l.rows l.values l.r l.c q x y) l.start l.p) l.initial.scratch l.count l.scratch l.total
