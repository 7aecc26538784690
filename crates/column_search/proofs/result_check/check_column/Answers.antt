use mathlib.Core.Path.{sym, ◌∙◌}
use borrow.Author.Tests.{lt-ltb, le-ltb}
use Rattle.refusal.proofs.Steps.{first_hit, first_skip, first_end}
use Rattle.result.specs.Lookup.{column_faults}
use Rattle.column_search.proofs.result_check.check_column.Goals as goal

pub returns-then-e-s : goal.returns-then-e-s
unfolding column_faults
returns-then-e-s c = sym (first_hit _ _ _ (rw (← c.at-s.ensures, ← c.at-e.ensures) (lt-ltb _ _ c.if-e-s.true)))

pub returns-then-rows-e : goal.returns-then-rows-e
unfolding column_faults
returns-then-rows-e c = sym
    (first_skip _ _ _ (rw (← c.at-s.ensures, ← c.at-e.ensures) (le-ltb _ _ c.if-e-s.false))
    (first_hit _ _ _ (rw (← c.at-e.ensures) (lt-ltb _ _ c.if-rows-e.true))))

pub returns-then-values-e : goal.returns-then-values-e
unfolding column_faults
returns-then-values-e c = sym
    (first_skip _ _ _ (rw (← c.at-s.ensures, ← c.at-e.ensures) (le-ltb _ _ c.if-e-s.false))
    (first_skip _ _ _ (rw (← c.at-e.ensures) (le-ltb _ _ c.if-rows-e.false))
    (first_hit _ _ _ (rw (← c.at-e.ensures) (lt-ltb _ _ c.if-values-e.true)))))

pub returns-then-not_rising : goal.returns-then-not_rising
unfolding column_faults
returns-then-not_rising c = sym
    (first_skip _ _ _ (rw (← c.at-s.ensures, ← c.at-e.ensures) (le-ltb _ _ c.if-e-s.false))
    (first_skip _ _ _ (rw (← c.at-e.ensures) (le-ltb _ _ c.if-rows-e.false))
    (first_skip _ _ _ (rw (← c.at-e.ensures) (le-ltb _ _ c.if-values-e.false))
    (first_hit _ _ _ (rw (← c.at-s.ensures) (sym c.not_rising.ensures ∙ c.if-not_rising.true))))))

pub returns : goal.returns
unfolding column_faults
returns c = sym
    (first_skip _ _ _ (rw (← c.at-s.ensures, ← c.at-e.ensures) (le-ltb _ _ c.if-e-s.false))
    (first_skip _ _ _ (rw (← c.at-e.ensures) (le-ltb _ _ c.if-rows-e.false))
    (first_skip _ _ _ (rw (← c.at-e.ensures) (le-ltb _ _ c.if-values-e.false))
    (first_skip _ _ _ (rw (← c.at-s.ensures) (sym c.not_rising.ensures ∙ c.if-not_rising.false))
    (first_end _)))))
