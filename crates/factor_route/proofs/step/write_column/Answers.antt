use Rattle.scatter.proofs.Values.{splice_lent}
use Rattle.scatter.proofs.Column.{stepped-length}
use Rattle.exact.specs.Exact.{floats}
use Rattle.exact.specs.PivotCase.{step_below, step_on}
use Rattle.last_steps.specs.DivisorParts.{is_pivot}
use lib.Ieee.{nan}
use lib.Seq.{length-take-le}
use lib.ListN.{take, drop, length-drop, length}
use native.Mathlib.Omega.{arith}
use Prim.Native.Nat.{◌-◌}
use mathlib.Core.Path.{◌≡◌, ◌∙◌}
use Rattle.factor_route.proofs.step.write_column.Goals as goal

pub returns : goal.returns
returns c = let a = c.args.a in
    let k = c.args.e - c.args.a in
    let v = c.args.values.now in
    let wide : length (take k (drop a v)) ≡ k = length-take-le k (drop a v) (omega (arith, length-drop a v)) in
    rw c.column_step.ensures
    (splice_lent a k _ v (stepped-length floats (step_below (is_pivot c.args.divisor)) (step_on (is_pivot c.args.divisor)) nan _ _ _ (take k (drop a v)) _ ∙ wide))
