use Prim.Native.Nat.{◌-◌}
use native.Mathlib.Omega.{arith}
use mathlib.Core.Path.{◌≡◌}
use lib.ListN.{length, take, drop, length-drop}
use lib.Seq.{length-take-le}
use Rattle.exact.specs.PivotCase.{step_below}
use Rattle.last_steps.specs.DivisorParts.{is_pivot, number}
use Rattle.closure_route.proofs.FinishLaws.{part-finished}
use Rattle.closure_route.proofs.finish.finish_part.Goals as goal

pub returns : goal.returns
returns c = let a = c.args in
    let z = a.result_values.now in
    let m = a.last - a.first in
    let size : length (take m (drop a.first z)) ≡ m = length-take-le m (drop a.first z) (simp length-drop (omega (arith, c.requires.0, c.requires.1))) in
    part-finished a.j (step_below (is_pivot a.divisor) (number a.divisor)) a.rows.now a.first a.last z _ c.requires.0 c.requires.1 (rw size at c.finish_column.ensures)
