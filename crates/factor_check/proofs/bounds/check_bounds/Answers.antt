use Rattle.columns.specs.Columns.{bound_steps}
use Rattle.refusal.proofs.Steps.{first_hit, first_skip, first_end}
use borrow.Author.Tests.{lt-ltb, le-ltb}
use mathlib.Core.Path.{sym}
use Rattle.factor_check.proofs.bounds.check_bounds.Goals as goal

pub returns-then-n-gt-MAX_DIMENSION : goal.returns-then-n-gt-MAX_DIMENSION
unfolding bound_steps
returns-then-n-gt-MAX_DIMENSION c = sym (first_hit _ _ _ (lt-ltb _ _ c.if-n-gt-MAX_DIMENSION.true))

pub returns-then-entries-gt-MAX_ENTRIES : goal.returns-then-entries-gt-MAX_ENTRIES
unfolding bound_steps
returns-then-entries-gt-MAX_ENTRIES c = sym (first_skip _ _ _ (le-ltb _ _ c.if-n-gt-MAX_DIMENSION.false) (first_hit _ _ _ (lt-ltb _ _ c.if-entries-gt-MAX_ENTRIES.true)))

pub returns : goal.returns
unfolding bound_steps
returns c = sym (first_skip _ _ _ (le-ltb _ _ c.if-n-gt-MAX_DIMENSION.false) (first_skip _ _ _ (le-ltb _ _ c.if-entries-gt-MAX_ENTRIES.false) (first_end _)))
