use mathlib.Core.Path.{sym, ◌∙◌}
use Rattle.weight_ranges.proofs.Laws.{weights_many, weights_bad, weights_passed}
use Rattle.weight_ranges.proofs.checks.check_weights.Goals as goal

pub returns-then-terms-gt-MAX_TERMS : goal.returns-then-terms-gt-MAX_TERMS
returns-then-terms-gt-MAX_TERMS c = weights_many _ _ _ c.if-terms-gt-MAX_TERMS.true

pub returns-then-some_bad_range : goal.returns-then-some_bad_range
returns-then-some_bad_range c = weights_bad _ _ _ c.if-terms-gt-MAX_TERMS.false (sym c.some_bad_range.ensures ∙ c.if-some_bad_range.true)

pub returns : goal.returns
returns c = weights_passed _ _ _ c.if-terms-gt-MAX_TERMS.false (sym c.some_bad_range.ensures ∙ c.if-some_bad_range.false)
