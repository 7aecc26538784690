use native.Mathlib.Omega.{arith}
use native.Mathlib.Nat.{le_refl}
use mathlib.Core.Path.{ap₂, sym, ◌∙◌}
use lib.ListN.{length}
use lib.IntN.{ℤ}
use Rattle.integers.proofs.Size.{size_more}
use Rattle.whole_steps.specs.Machine.{held}
use Rattle.refusal.specs.Steps.{answered}
use Rattle.refusal.proofs.Returned.{returned}
use Rattle.refusal.proofs.Steps.{first_refused, first_passed}
use Rattle.weight_ranges.specs.Ranges.{range_steps}
use Rattle.weight_ranges.proofs.Sizes.{least_sums_size, greatest_sums_size}
use Rattle.weight_ranges.proofs.Laws.{ranges_ready}
use Rattle.weight_ranges.proofs.variance_bounds_whole.Goals as goal

pub row_bounds-b-requires : goal.row_bounds-b-requires
row_bounds-b-requires c =
    let passed = sym c.in_ok-check_call.ensures in
    let is-ranges-ready = ranges_ready _ _ _ _ _ _ passed in
    is-ranges-ready

pub returns-in_err-check_call : goal.returns-in_err-check_call
returns-in_err-check_call c =
    let steps = range_steps c.args.starts.now c.args.rows.now c.args.values.now c.args.columns.now c.args.lows.now c.args.highs.now in
    returned _ _ c.from_residual.ensures.1 (first_refused steps _ _ (sym c.in_err-check_call.ensures))

pub returns : goal.returns
returns c =
    let passed = sym c.in_ok-check_call.ensures in
    let R = ranges_ready _ _ _ _ _ _ passed in
    let steps = range_steps c.args.starts.now c.args.rows.now c.args.values.now c.args.columns.now c.args.lows.now c.args.highs.now in
    let n = length c.args.columns.now in
    ap₂ (λ (x y : ℤ). answered (x, y))
    (held {k = 4611686018427387904} (le_refl 4611686018427387904) c.row_bounds-b.ensures.low_value (size_more (least_sums_size R n (le_refl n)) (omega (arith, R.few))))
    (held {k = 4611686018427387904} (le_refl 4611686018427387904) c.row_bounds-b.ensures.high_value (size_more (greatest_sums_size R n (le_refl n)) (omega (arith, R.few))))
    ∙ sym (first_passed steps _ passed)
