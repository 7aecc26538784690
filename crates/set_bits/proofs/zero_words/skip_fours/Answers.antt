use mathlib.Core.Path.{sym, ◌∙◌}
use borrow.Author.Rules.{rules}
use Rattle.set_bits.proofs.ZeroLaws.{zeros_none, zeros_four}
use Rattle.set_bits.proofs.zero_words.skip_fours.Goals as goal

pub loop-w-init : goal.loop-w-init
loop-w-init c = zeros_none _ c.requires.0

pub overflow_add-w : goal.overflow_add-w
overflow_add-w c = let h = c.loop-w.invariant.upto in search rules

pub returns-then-four_words-ne0 : goal.returns-then-four_words-ne0
returns-then-four_words-ne0 c = c.loop-w.invariant

pub loop-w-preserved : goal.loop-w-preserved
loop-w-preserved c = zeros_four c.loop-w.invariant c.loop-w-test.true (sym c.four_words.ensures ∙ c.if-four_words-ne0.false)

pub returns : goal.returns
returns c = c.loop-w.invariant
