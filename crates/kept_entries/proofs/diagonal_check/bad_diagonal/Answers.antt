use borrow.Author.Tests.{ne_eqb}
use Rattle.columns.proofs.Diagonal.{bad_between-absent, bad_between_here}
use native.Mathlib.Omega.{arith}
use mathlib.Core.Path.{sym, ◌∙◌}
use Rattle.kept_entries.proofs.diagonal_check.bad_diagonal.Goals as goal

pub first_from-p-requires : goal.first_from-p-requires
first_from-p-requires c = let C = c.requires in (C.ordered, C.stored)

pub returns-then-e-p : goal.returns-then-e-p
returns-then-e-p c = sym (bad_between-absent c.requires c.first_from-p.ensures _ (λ l. absurd (omega arith)))

pub returns-then-at-c : goal.returns-then-at-c
returns-then-at-c c = sym (bad_between-absent c.requires c.first_from-p.ensures _ (λ l. rw (ne_eqb _ _ (λ q. c.if-at-c.true (c.at.ensures ∙ q)))))

pub returns : goal.returns
returns c = sym (bad_between_here c.requires c.first_from-p.ensures _ (omega arith) (sym c.at.ensures ∙ c.if-at-c.false))
