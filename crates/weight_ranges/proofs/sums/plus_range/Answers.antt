use native.Mathlib.Omega.{arith}
use mathlib.Core.Path.{refl, ap₂, ◌∙◌}
use lib.IntN.{◌+ℤ◌}
use Rattle.integers.proofs.Size.{size_sum}
use Rattle.whole_steps.specs.Machine.{held, fits_both}
use Rattle.weight_ranges.proofs.sums.plus_range.Goals as goal

pub sum-requires : goal.sum-requires
sum-requires c = let p = c.requires in
    fits_both ◌+ℤ◌ (held (omega arith) refl p.0) (held (omega arith) refl p.2) (omega arith) (size_sum p.0 p.2)

pub sum-requires-2 : goal.sum-requires-2
sum-requires-2 c = let p = c.requires in
    fits_both ◌+ℤ◌ (held (omega arith) refl p.1) (held (omega arith) refl p.3) (omega arith) (size_sum p.1 p.3)

pub returns : goal.returns
returns c = let p = c.requires in record { low_value = held (omega arith) (c.sum.ensures ∙ ap₂ ◌+ℤ◌ (held (omega arith) refl p.0) (held (omega arith) refl p.2)) (size_sum p.0 p.2); high_value = held (omega arith) (c.sum-2.ensures ∙ ap₂ ◌+ℤ◌ (held (omega arith) refl p.1) (held (omega arith) refl p.3)) (size_sum p.1 p.3) }
