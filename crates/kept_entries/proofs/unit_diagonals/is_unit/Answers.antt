use native.Mathlib.Omega.{arith}
use mathlib.Core.Path.{sym, ◌∙◌}
use Rattle.kept_entries.proofs.DiagonalLaws.{diagonal_absent, diagonal_dropped, diagonal_here}
use Rattle.kept_entries.proofs.unit_diagonals.is_unit.Goals as goal

pub returns-then-e-p : goal.returns-then-e-p
returns-then-e-p g c = diagonal_absent c.requires c.first_from-p.ensures _ _ (λ l. absurd (omega arith))

pub returns-then-at-c : goal.returns-then-at-c
returns-then-at-c g c = diagonal_absent c.requires c.first_from-p.ensures _ _ (λ l q. c.if-at-c.true (c.at.ensures ∙ q))

pub returns-then-not-is_kept : goal.returns-then-not-is_kept
returns-then-not-is_kept g c =
    diagonal_dropped c.requires c.first_from-p.ensures _ _ (omega arith) (sym c.at.ensures ∙ c.if-at-c.false) (sym c.is_kept.ensures ∙ c.if-not-is_kept.true)

pub returns : goal.returns
returns g c =
    rw c.is_one.ensures
    (diagonal_here c.requires c.first_from-p.ensures _ _ (omega arith) (sym c.at.ensures ∙ c.if-at-c.false) (sym c.is_kept.ensures ∙ c.if-not-is_kept.false))
