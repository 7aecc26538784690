use Rattle.floor.proofs.Applied.{applied_none, applied_above, applied_hit, applied_all}
use Rattle.floor.specs.Floored.{hit}
use Rattle.lists.specs.Select.{tally_most}
use native.Mathlib.Omega.{arith}
use Rattle.floor.proofs.floored.apply_floor.Goals.{else-x-floor_value, then-x-floor_value}
use Rattle.floor.proofs.floored.apply_floor.Goals as goal

pub loop-i-init : goal.loop-i-init
loop-i-init c = applied_none _ _ _

pub overflow_add-floor_hits : goal.overflow_add-floor_hits
overflow_add-floor_hits c = omega (arith, c.loop-i.invariant.counted, tally_most (hit c.args.floor_value c.args.values.now) 0 c.loop-i.i)

pub loop-i-preserved : goal.loop-i-preserved
loop-i-preserved c = let a = c.args in
    let more = c.loop-i-test.true in
    let A = c.loop-i.invariant in
    elim c.if-x-floor_value.branch [ then-x-floor_value w ↦ rw (w.output-is, w.floor_hits-is) (applied_above a.floor_value a.values.now a.output.now A more c.requires w.if-x-floor_value.true) | else-x-floor_value w ↦ rw (w.output-is, w.floor_hits-is) (applied_hit a.floor_value a.values.now a.output.now A more c.requires w.if-x-floor_value.false) ]

pub returns : goal.returns
returns c =
    let a = c.args in
    let p = applied_all a.floor_value a.values.now a.output.now c.loop-i.invariant (omega arith) in
    record { value = p.0; output_after = p.1 }
