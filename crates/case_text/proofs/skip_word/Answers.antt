use Rattle.case_text.proofs.TextLaws.{past_run_all, past_run_stop, past_run_more}
use borrow.Author.Rules.{rules}
use borrow.Author.Tests.{le-leb, lt-leb}
use mathlib.Core.Bool.{not}
use mathlib.Core.Path.{refl, ap, sym, ◌∙◌}
use Rattle.case_text.proofs.skip_word.Goals as goal

pub loop-i-init : goal.loop-i-init
loop-i-init c = refl

pub returns-then-text-i-le32 : goal.returns-then-text-i-le32
returns-then-text-i-le32 c = sym (c.loop-i.invariant ∙ past_run_stop _ _ _ (ap not (le-leb _ _ c.if-text-i-le32.true)))

pub loop-i-preserved : goal.loop-i-preserved
loop-i-preserved c = c.loop-i.invariant ∙ past_run_more _ _ _ (search rules) (ap not (lt-leb _ _ c.if-text-i-le32.false))

pub returns : goal.returns
returns c = past_run_all _ _ _ _ _ c.loop-i-test.false c.loop-i.auto.i-end (search rules) c.loop-i.invariant
