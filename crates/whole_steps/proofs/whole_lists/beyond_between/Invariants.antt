use mathlib.Core.Bool.{Bool}
use mathlib.Core.List.{List}
use mathlib.Core.Path.{◌≡◌}
use Prim.Native.Nat.{ℕ}
use lib.IntN.{ℤ}
use Rattle.lists.specs.Test.{any_in}
use Rattle.columns.specs.WholeFactor.{whole_value}
use Rattle.exact.specs.Checked.{beyond}
use Rattle.whole_steps.proofs.whole_lists.beyond_between.Given as goal

abbrev pub test : List ℤ → ℕ → Bool
test wholes p = beyond (whole_value wholes p)

abbrev pub invariant-loop-p : goal.invariant-loop-p
invariant-loop-p l = l.found ≡ any_in (test l.wholes) l.s l.p
