use native.Mathlib.Omega.{arith}
use mathlib.Core.Path.{refl, ap₂, ◌∙◌}
use Rattle.integers.specs.MinMax.{minℤ, maxℤ}
use Rattle.integers.proofs.Size.{size_minℤ, size_maxℤ}
use Rattle.whole_steps.specs.Machine.{held}
use Rattle.weight_ranges.proofs.range.widest.Goals as goal

pub returns : goal.returns
returns c = let p = c.requires in
    let low = c.ordered.ensures.low_value ∙ ap₂ minℤ (held (omega arith) refl p.0) (held (omega arith) refl p.2) in
    let high = c.ordered-2.ensures.high_value ∙ ap₂ maxℤ (held (omega arith) refl p.1) (held (omega arith) refl p.3) in record { low_value = held (omega arith) low (size_minℤ c.args.a.low c.args.b.low p.0 p.2); high_value = held (omega arith) high (size_maxℤ c.args.a.high c.args.b.high p.1 p.3) }
