use borrow.Author.Tests.{eq-eqb, ne_eqb}
use Rattle.starred.proofs.shown.shows.Goals as goal

pub returns-then-d-requested : goal.returns-then-d-requested
returns-then-d-requested c = rw (ne_eqb _ _ c.if-d-requested.true)

pub returns-then-d-closure : goal.returns-then-d-closure
returns-then-d-closure c = rw (eq-eqb _ _ c.if-d-requested.false, ne_eqb _ _ c.if-d-closure.true)

pub returns-then-d-factor : goal.returns-then-d-factor
returns-then-d-factor c = rw (eq-eqb _ _ c.if-d-requested.false, eq-eqb _ _ c.if-d-closure.false, ne_eqb _ _ c.if-d-factor.true)

pub returns-then-complete : goal.returns-then-complete
returns-then-complete c = rw (eq-eqb _ _ c.if-d-requested.false, eq-eqb _ _ c.if-d-closure.false, eq-eqb _ _ c.if-d-factor.false, c.if-complete.true, c.is_complete.ensures)

pub returns : goal.returns
returns c = rw (eq-eqb _ _ c.if-d-requested.false, eq-eqb _ _ c.if-d-closure.false, eq-eqb _ _ c.if-d-factor.false, c.if-complete.false, c.is_complete-2.ensures)
