use Rattle.case_text.specs.Text.{digit_more}
use Rattle.std.proofs.Common.{arith}
use Rattle.std.proofs.lemmas.Grind.{common_steps}
use Rattle.std.proofs.lemmas.Bool.Decides.{nat_tests}
use Rattle.case_text.proofs.digit_more.Goals as goal

pub returns-in-Some : goal.returns-in-Some
unfolding digit_more
returns-in-Some c = let h = c.in-Some.ensures in grind (arith, common_steps, nat_tests)

pub returns-in-None : goal.returns-in-None
unfolding digit_more
returns-in-None c = let h = c.in-None.ensures in grind (arith, common_steps, nat_tests)
