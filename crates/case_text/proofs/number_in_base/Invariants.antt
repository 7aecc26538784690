use Prim.Native.Nat.{◌-◌}
use Rattle.case_text.specs.Text.{number_from, number_at}
use lib.ListN.{length}
use mathlib.Core.Path.{◌≡◌}
use Rattle.case_text.proofs.number_in_base.Given as goal

abbrev pub invariant-loop-i : goal.invariant-loop-i
invariant-loop-i l = number_at l.base l.text l.p ≡ number_from l.base l.text l.value l.i (length l.text - l.i)
