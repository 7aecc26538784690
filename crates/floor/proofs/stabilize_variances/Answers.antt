use Rattle.refusal.proofs.Returned.{returned}
use Rattle.floor.proofs.Answer.{stabilized_is}
use Rattle.floor.specs.VarianceFloorLaws.{floor_accepted}
use Rattle.floor.specs.Floored.{floored}
use Rattle.floor.specs.VarianceFloor.{floor_steps}
use Rattle.refusal.specs.Steps.{answered}
use Rattle.refusal.proofs.Steps.{first_refused, first_passed, after_refused, after_passed}
use Rattle.lists.specs.Overwrite.{overwrite}
use lib.Ieee.{Float}
use mathlib.Core.Path.{ap, sym, ◌∙◌}
use lib.ListN.{length}
use Rattle.floor.proofs.stabilize_variances.Goals as goal

pub floor_of-floor_value-requires : goal.floor_of-floor_value-requires
floor_of-floor_value-requires c =
    let passed = sym c.in_ok-check_floor.ensures in
    let within = floor_accepted c.args.floor c.args.values.now (length c.args.output.now) passed in
    within.small

pub apply_floor-floor_hits-requires : goal.apply_floor-floor_hits-requires
apply_floor-floor_hits-requires c =
    let passed = sym c.in_ok-check_floor.ensures in
    let within = floor_accepted c.args.floor c.args.values.now (length c.args.output.now) passed in
    within.fits

pub returns-in_err-check_floor : goal.returns-in_err-check_floor
returns-in_err-check_floor c =
    let s = floor_steps c.args.floor c.args.values.now (length c.args.output.now) in
    let e = sym c.in_err-check_floor.ensures in
    record { replies = returned _ _ c.from_residual.ensures.1 (first_refused s _ _ e); output_after_lem = sym (after_refused s _ _ _ e) }

pub returns : goal.returns
returns c =
    let s = floor_steps c.args.floor c.args.values.now (length c.args.output.now) in
    let p = sym c.in_ok-check_floor.ensures in
    let a = c.args in
    record {
      replies = ap answered (stabilized_is a.floor a.values.now c.floor_of-floor_value.ensures c.apply_floor-floor_hits.ensures.value) ∙ sym (first_passed s _ p);
      output_after_lem =
          c.apply_floor-floor_hits.ensures.output_after
          ∙ ap (λ (x : Float). overwrite (floored x a.values.now) a.output.now) c.floor_of-floor_value.ensures
          ∙ sym (after_passed s _ _ p);
    }
