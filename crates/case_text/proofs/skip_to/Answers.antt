use Rattle.case_text.proofs.TextLaws.{begins_within, first_all, first_found, first_more}
use borrow.Author.Rules.{rules}
use mathlib.Core.Path.{refl, sym, ◌∙◌}
use Rattle.case_text.proofs.skip_to.Goals as goal

pub loop-i-init : goal.loop-i-init
loop-i-init c = refl

pub overflow_add-result : goal.overflow_add-result
overflow_add-result c = let within = begins_within _ _ _ (sym c.begins.ensures ∙ c.if-begins.true) in
    search rules

pub returns-then-begins : goal.returns-then-begins
returns-then-begins c = sym (c.loop-i.invariant ∙ first_found _ _ _ _ (search rules) (sym c.begins.ensures ∙ c.if-begins.true))

pub loop-i-preserved : goal.loop-i-preserved
loop-i-preserved c = c.loop-i.invariant ∙ first_more _ _ _ _ (search rules) (sym c.begins.ensures ∙ c.if-begins.false)

pub returns : goal.returns
returns c = first_all _ _ _ _ _ _ c.loop-i-test.false c.loop-i.auto.i-end (search rules) c.loop-i.invariant
