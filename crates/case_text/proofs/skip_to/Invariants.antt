use Rattle.case_text.specs.Text.{past_first}
use mathlib.Core.Path.{◌≡◌}
use Rattle.case_text.proofs.skip_to.Given as goal

abbrev pub invariant-loop-i : goal.invariant-loop-i
invariant-loop-i l = past_first l.text l.p l.label ≡ past_first l.text l.i l.label
