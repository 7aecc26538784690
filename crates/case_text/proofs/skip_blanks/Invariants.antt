use Rattle.case_text.specs.Text.{past_blanks}
use mathlib.Core.Path.{◌≡◌}
use Rattle.case_text.proofs.skip_blanks.Given as goal

abbrev pub invariant-loop-i : goal.invariant-loop-i
invariant-loop-i l = past_blanks l.text l.p ≡ past_blanks l.text l.i
