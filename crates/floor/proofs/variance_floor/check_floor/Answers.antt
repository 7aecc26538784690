use Rattle.refusal.proofs.Steps.{first_hit, first_skip, first_end}
use borrow.Author.Tests.{lt-ltb, le-ltb}
use mathlib.Core.Path.{sym, ◌∙◌}
use Rattle.floor.proofs.variance_floor.check_floor.Goals as goal

pub returns-then-values-gt-MAX_ENTRIES : goal.returns-then-values-gt-MAX_ENTRIES
returns-then-values-gt-MAX_ENTRIES c = sym (first_hit 1 _ tt (lt-ltb _ _ c.if-values-gt-MAX_ENTRIES.true))

pub returns-then-any_not_finite : goal.returns-then-any_not_finite
returns-then-any_not_finite c = sym (first_skip 1 _ tt (le-ltb _ _ c.if-values-gt-MAX_ENTRIES.false) (first_hit 13 _ tt (sym c.any_not_finite.ensures ∙ c.if-any_not_finite.true)))

pub returns-then-bad_scale : goal.returns-then-bad_scale
returns-then-bad_scale c = sym
    (first_skip 1 _ tt (le-ltb _ _ c.if-values-gt-MAX_ENTRIES.false)
    (first_skip 13 _ tt (sym c.any_not_finite.ensures ∙ c.if-any_not_finite.false)
    (first_hit 14 _ tt (sym c.bad_scale.ensures ∙ c.if-bad_scale.true))))

pub returns-then-room-values : goal.returns-then-room-values
returns-then-room-values c = sym
    (first_skip 1 _ tt (le-ltb _ _ c.if-values-gt-MAX_ENTRIES.false)
    (first_skip 13 _ tt (sym c.any_not_finite.ensures ∙ c.if-any_not_finite.false)
    (first_skip 14 _ tt (sym c.bad_scale.ensures ∙ c.if-bad_scale.false)
    (first_hit 7 _ tt (lt-ltb _ _ c.if-room-values.true)))))

pub returns : goal.returns
returns c = sym
    (first_skip 1 _ tt (le-ltb _ _ c.if-values-gt-MAX_ENTRIES.false)
    (first_skip 13 _ tt (sym c.any_not_finite.ensures ∙ c.if-any_not_finite.false)
    (first_skip 14 _ tt (sym c.bad_scale.ensures ∙ c.if-bad_scale.false)
    (first_skip 7 _ tt (le-ltb _ _ c.if-room-values.false) (first_end tt)))))
