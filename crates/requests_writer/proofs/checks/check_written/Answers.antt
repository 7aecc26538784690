use mathlib.Core.Path.{ap, sym, ◌∙◌}
use mathlib.Core.Bool.{not}
use borrow.Author.Tests.{lt-ltb, le-ltb, eq-eqb, ne_eqb}
use Rattle.refusal.proofs.Steps.{first_hit, first_skip, first_end}
use Rattle.requests_writer.specs.Writer.{write_checks}
use Rattle.requests_writer.proofs.checks.check_written.Goals as goal

pub returns-then-n-gt-MAX_DIMENSION : goal.returns-then-n-gt-MAX_DIMENSION
unfolding write_checks
returns-then-n-gt-MAX_DIMENSION c = sym (first_hit 1 _ tt (lt-ltb _ _ c.if-n-gt-MAX_DIMENSION.true))

pub returns-then-rows-gt-MAX_ENTRIES : goal.returns-then-rows-gt-MAX_ENTRIES
unfolding write_checks
returns-then-rows-gt-MAX_ENTRIES c = sym (first_skip 1 _ tt (le-ltb _ _ c.if-n-gt-MAX_DIMENSION.false) (first_hit 1 _ tt (lt-ltb _ _ c.if-rows-gt-MAX_ENTRIES.true)))

pub returns-then-rows-columns : goal.returns-then-rows-columns
unfolding write_checks
returns-then-rows-columns c = sym
    (first_skip 1 _ tt (le-ltb _ _ c.if-n-gt-MAX_DIMENSION.false)
    (first_skip 1 _ tt (le-ltb _ _ c.if-rows-gt-MAX_ENTRIES.false)
    (first_hit 4 _ tt (ap not (ne_eqb _ _ c.if-rows-columns.true)))))

pub returns-then-index_outside : goal.returns-then-index_outside
unfolding write_checks
returns-then-index_outside c = sym
    (first_skip 1 _ tt (le-ltb _ _ c.if-n-gt-MAX_DIMENSION.false)
    (first_skip 1 _ tt (le-ltb _ _ c.if-rows-gt-MAX_ENTRIES.false)
    (first_skip 4 _ tt (ap not (eq-eqb _ _ c.if-rows-columns.false))
    (first_hit 5 _ tt (sym c.index_outside.ensures ∙ c.if-index_outside.true)))))

pub returns-then-index_outside-2 : goal.returns-then-index_outside-2
unfolding write_checks
returns-then-index_outside-2 c = sym
    (first_skip 1 _ tt (le-ltb _ _ c.if-n-gt-MAX_DIMENSION.false)
    (first_skip 1 _ tt (le-ltb _ _ c.if-rows-gt-MAX_ENTRIES.false)
    (first_skip 4 _ tt (ap not (eq-eqb _ _ c.if-rows-columns.false))
    (first_skip 5 _ tt (sym c.index_outside.ensures ∙ c.if-index_outside.false)
    (first_hit 5 _ tt (sym c.index_outside-2.ensures ∙ c.if-index_outside-2.true))))))

pub returns-then-some_upper : goal.returns-then-some_upper
unfolding write_checks
returns-then-some_upper c = sym
    (first_skip 1 _ tt (le-ltb _ _ c.if-n-gt-MAX_DIMENSION.false)
    (first_skip 1 _ tt (le-ltb _ _ c.if-rows-gt-MAX_ENTRIES.false)
    (first_skip 4 _ tt (ap not (eq-eqb _ _ c.if-rows-columns.false))
    (first_skip 5 _ tt (sym c.index_outside.ensures ∙ c.if-index_outside.false)
    (first_skip 5 _ tt (sym c.index_outside-2.ensures ∙ c.if-index_outside-2.false)
    (first_hit 5 _ tt (sym c.some_upper.ensures ∙ c.if-some_upper.true)))))))

pub returns-then-no_requests : goal.returns-then-no_requests
unfolding write_checks
returns-then-no_requests c = sym
    (first_skip 1 _ tt (le-ltb _ _ c.if-n-gt-MAX_DIMENSION.false)
    (first_skip 1 _ tt (le-ltb _ _ c.if-rows-gt-MAX_ENTRIES.false)
    (first_skip 4 _ tt (ap not (eq-eqb _ _ c.if-rows-columns.false))
    (first_skip 5 _ tt (sym c.index_outside.ensures ∙ c.if-index_outside.false)
    (first_skip 5 _ tt (sym c.index_outside-2.ensures ∙ c.if-index_outside-2.false)
    (first_skip 5 _ tt (sym c.some_upper.ensures ∙ c.if-some_upper.false)
    (first_hit 24 _ tt (sym c.no_requests.ensures ∙ c.if-no_requests.true))))))))

pub returns : goal.returns
unfolding write_checks
returns c = sym
    (first_skip 1 _ tt (le-ltb _ _ c.if-n-gt-MAX_DIMENSION.false)
    (first_skip 1 _ tt (le-ltb _ _ c.if-rows-gt-MAX_ENTRIES.false)
    (first_skip 4 _ tt (ap not (eq-eqb _ _ c.if-rows-columns.false))
    (first_skip 5 _ tt (sym c.index_outside.ensures ∙ c.if-index_outside.false)
    (first_skip 5 _ tt (sym c.index_outside-2.ensures ∙ c.if-index_outside-2.false)
    (first_skip 5 _ tt (sym c.some_upper.ensures ∙ c.if-some_upper.false)
    (first_skip 24 _ tt (sym c.no_requests.ensures ∙ c.if-no_requests.false)
    (first_end tt))))))))
