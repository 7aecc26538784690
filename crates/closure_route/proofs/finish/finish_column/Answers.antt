use native.Mathlib.Omega.{arith}
use mathlib.Core.Path.{◌≡◌, ap, ◌∙◌}
use lib.ListN.{length}
use Rattle.exact.specs.PivotCase.{step_below}
use Rattle.last_steps.specs.DivisorParts.{is_pivot, number}
use Rattle.closure_route.proofs.PartLaws.{part_none, part_more}
use Rattle.closure_route.proofs.FinishLaws.{sums_finished}
use Rattle.closure_route.proofs.finish.finish_column.Goals as goal

pub loop-q-init : goal.loop-q-init
loop-q-init c = part_none _ _ _

pub loop-q-preserved : goal.loop-q-preserved
loop-q-preserved c = let l = c.loop-q in
    let a = c.args in
    part_more l.invariant l.auto.q (omega arith) (c.entry_below.ensures ∙ ap (step_below (is_pivot a.divisor) (number a.divisor)) (l.invariant.after l.q (omega arith)))

pub returns : goal.returns
returns c = let l = c.loop-q in
    let F = c.first_from-first.ensures in
    let e : l.q ≡ length c.args.part.now = omega (arith, F.upto) in
    sums_finished F (rw e at l.invariant)
