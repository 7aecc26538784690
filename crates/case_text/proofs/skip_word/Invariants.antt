use Rattle.case_text.specs.Text.{past_word}
use mathlib.Core.Path.{◌≡◌}
use Rattle.case_text.proofs.skip_word.Given as goal

abbrev pub invariant-loop-i : goal.invariant-loop-i
invariant-loop-i l = past_word l.text l.p ≡ past_word l.text l.i
