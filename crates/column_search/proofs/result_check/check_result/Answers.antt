use mathlib.Core.Path.{sym}
use borrow.Author.Tests.{eq-eqb, ne_eqb}
use Rattle.refusal.proofs.Steps.{first_hit, first_skip}
use Rattle.result.specs.Lookup.{result_steps}
use Rattle.column_search.proofs.result_check.check_result.Goals as goal

pub returns-then-starts-eq0 : goal.returns-then-starts-eq0
unfolding result_steps
returns-then-starts-eq0 c = sym (first_hit _ _ _ (eq-eqb _ _ c.if-starts-eq0.true))

pub returns : goal.returns
unfolding result_steps
returns c = sym (first_skip _ _ _ (ne_eqb _ _ c.if-starts-eq0.false) (sym c.check_each.ensures))
