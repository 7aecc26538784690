use mathlib.Core.Path.{ap}
use Rattle.columns.specs.Columns.{value}
use native.Mathlib.Omega.{arith}
use Prim.Native.Nat.{◌-◌, ◌+◌}
use mathlib.Core.Path.{◌≡◌, ◌∙◌}
use lib.ListN.{get_or}
use lib.Ieee.{Float, binary64, nan, add, mul}
use Rattle.closure_route.proofs.sums.sum_run.Goals as goal

pub loop-p-init : goal.loop-p-init
loop-p-init c = λ f b s. b

pub loop-p-preserved : goal.loop-p-preserved
loop-p-preserved c = let l = c.loop-p in
    let a = c.args in
    λ f b s.
    ap (λ (x : Float). add binary64 x (mul binary64 (value a.values.now l.p) (get_or a.result_values.now (a.position + (l.p - a.first)) nan)))
    (l.invariant f b (λ p lo hi. s p lo (omega arith)))
    ∙ s l.p l.auto.p (omega arith)

pub returns : goal.returns
returns c = let l = c.loop-p in
    let e : l.p ≡ c.args.e = omega arith in
    rw e at l.invariant
