use mathlib.Core.Path.{sym}
use Rattle.refusal.proofs.Steps.{first_hit, first_skip, first_end}
use Rattle.columns.specs.UnitDiagonals.{unit_steps}
use Rattle.kept_entries.proofs.DiagonalLaws.{units_none, units_some}
use Rattle.kept_entries.proofs.unit_diagonals.check_pivot_diagonals.Goals as goal

pub returns-in-None : goal.returns-in-None
unfolding unit_steps
returns-in-None c = sym (first_hit 23 _ tt (units_none _ _ c.in-None.ensures))

pub returns-in-Some : goal.returns-in-Some
unfolding unit_steps
returns-in-Some c = let e = units_some _ _ _ c.in-Some.ensures in sym (first_skip 23 _ tt e.0 (first_end tt))
