use mathlib.Core.Bool.{false}
use mathlib.Core.Path.{◌≡◌}
use Rattle.lists.specs.Test.{any}
use Rattle.case_text.specs.Text.{differs}
use Rattle.case_text.proofs.begins.Given as goal

abbrev pub invariant-loop-i : goal.invariant-loop-i
invariant-loop-i l = any (differs l.text l.p l.label) l.i ≡ false
