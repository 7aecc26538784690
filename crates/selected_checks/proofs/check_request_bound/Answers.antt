use mathlib.Core.Path.{sym}
use borrow.Author.Tests.{lt-ltb, le-ltb}
use Rattle.refusal.proofs.Steps.{first_hit, first_skip, first_end}
use Rattle.selected_checks.proofs.check_request_bound.Goals as goal

pub returns-then-requests-gt-MAX_ENTRIES : goal.returns-then-requests-gt-MAX_ENTRIES
returns-then-requests-gt-MAX_ENTRIES c = sym (first_hit 1 _ tt (lt-ltb _ _ c.if-requests-gt-MAX_ENTRIES.true))

pub returns : goal.returns
returns c = sym (first_skip 1 _ tt (le-ltb _ _ c.if-requests-gt-MAX_ENTRIES.false) (first_end tt))
