use native.Mathlib.Omega.{arith}
use mathlib.Core.Path.{refl, ap, ap₂, sym, ◌∙◌}
use lib.IntN.{ℤ}
use Rattle.integers.specs.MinMax.{minℤ, maxℤ}
use Rattle.integers.proofs.Size.{size_is}
use Rattle.whole_steps.specs.Machine.{held}
use Rattle.weight_bounds.specs.Bounds.{least_times, greatest_times}
use Rattle.weight_ranges.proofs.Sizes.{times_sizes}
use Rattle.weight_ranges.proofs.terms.product_range.Goals as goal

pub widest-requires : goal.widest-requires
widest-requires c =
    let p = c.requires in
    let s = c.args.second in
    let least = λ (x : ℤ). least_times x s.low s.high in
    let greatest = λ (x : ℤ). greatest_times x s.low s.high in
    let u = times_sizes p.0 p.2 p.3 in
    let v = times_sizes p.1 p.2 p.3 in (
      size_is (sym (c.times_range.ensures.low_value ∙ ap least (held (omega arith) refl p.0))) u.0,
      size_is (sym (c.times_range.ensures.high_value ∙ ap greatest (held (omega arith) refl p.0))) u.1,
      size_is (sym (c.times_range-2.ensures.low_value ∙ ap least (held (omega arith) refl p.1))) v.0,
      size_is (sym (c.times_range-2.ensures.high_value ∙ ap greatest (held (omega arith) refl p.1))) v.1,
    )

pub returns : goal.returns
returns c =
    let p = c.requires in
    let s = c.args.second in
    let least = λ (x : ℤ). least_times x s.low s.high in
    let greatest = λ (x : ℤ). greatest_times x s.low s.high in
    record {
      low_value = c.widest.ensures.low_value
          ∙ ap₂ minℤ (c.times_range.ensures.low_value ∙ ap least (held (omega arith) refl p.0)) (c.times_range-2.ensures.low_value ∙ ap least (held (omega arith) refl p.1));
      high_value = c.widest.ensures.high_value
          ∙ ap₂ maxℤ (c.times_range.ensures.high_value ∙ ap greatest (held (omega arith) refl p.0)) (c.times_range-2.ensures.high_value ∙ ap greatest (held (omega arith) refl p.1));
    }
