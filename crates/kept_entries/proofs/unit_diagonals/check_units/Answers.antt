use mathlib.Core.Path.{sym, ◌∙◌}
use Rattle.refusal.proofs.Steps.{first_hit, first_skip, first_end}
use Rattle.columns.specs.UnitDiagonals.{unit_steps, missing_steps}
use Rattle.kept_entries.proofs.DiagonalLaws.{units_none, units_some}
use Rattle.kept_entries.proofs.unit_diagonals.check_units.Goals as goal

pub returns-in-None : goal.returns-in-None
unfolding unit_steps missing_steps
returns-in-None c = sym (first_hit 19 _ tt (units_none _ _ c.in-None.ensures))

pub returns-in-Some-true : goal.returns-in-Some-true
unfolding unit_steps missing_steps
returns-in-Some-true c = let e = units_some _ _ _ c.in-Some-true.ensures in
    sym (first_skip 19 _ tt e.0 (first_hit 6 _ tt (sym e.1 ∙ c.in-Some-true.field-0-test)))

pub returns-in-Some-false : goal.returns-in-Some-false
unfolding unit_steps missing_steps
returns-in-Some-false c = let e = units_some _ _ _ c.in-Some-false.ensures in
    sym (first_skip 19 _ tt e.0 (first_skip 6 _ tt (sym e.1 ∙ c.in-Some-false.field-0-test) (first_end tt)))
