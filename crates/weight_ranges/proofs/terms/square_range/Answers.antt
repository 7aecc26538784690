use native.Mathlib.Omega.{arith}
use mathlib.Core.Path.{refl, ap, ap₂, sym, ◌∙◌}
use lib.IntN.{ℤ, pos, ◌*ℤ◌}
use lib.Signed.{lt_z}
use Rattle.integers.specs.MinMax.{minℤ}
use Rattle.integers.proofs.Size.{size_product}
use Rattle.whole_steps.specs.Machine.{held}
use Rattle.weight_ranges.proofs.Laws.{square_above, square_below, square_zero}
use Rattle.weight_ranges.proofs.terms.square_range.Goals as goal

pub returns-then-of-gt0-clause-low_value : goal.returns-then-of-gt0-clause-low_value
returns-then-of-gt0-clause-low_value c =
    let p = c.requires in
    let a = c.args.of in
    let lo = held (omega arith) refl p.0 in
    let hi = held (omega arith) refl p.1 in
    let x = held (omega arith) (c.product.ensures ∙ ap₂ ◌*ℤ◌ lo lo) (size_product p.0 p.0) in
    let y = held (omega arith) (c.product-2.ensures ∙ ap₂ ◌*ℤ◌ hi hi) (size_product p.1 p.1) in
    c.ordered-squares.ensures.low_value ∙ ap₂ minℤ x y ∙ sym (square_above a.low a.high (sym (ap (λ (z : ℤ). lt_z (pos 0) z) lo) ∙ c.if-of-gt0.true))

pub returns-then-of-lt0-clause-low_value : goal.returns-then-of-lt0-clause-low_value
returns-then-of-lt0-clause-low_value c =
    let p = c.requires in
    let a = c.args.of in
    let lo = held (omega arith) refl p.0 in
    let hi = held (omega arith) refl p.1 in
    let x = held (omega arith) (c.product.ensures ∙ ap₂ ◌*ℤ◌ lo lo) (size_product p.0 p.0) in
    let y = held (omega arith) (c.product-2.ensures ∙ ap₂ ◌*ℤ◌ hi hi) (size_product p.1 p.1) in
    c.ordered-squares.ensures.low_value ∙ ap₂ minℤ x y
    ∙ sym (square_below a.low a.high (sym (ap (λ (z : ℤ). lt_z (pos 0) z) lo) ∙ c.if-of-gt0.false) (sym (ap (λ (z : ℤ). lt_z z (pos 0)) hi) ∙ c.if-of-lt0.true))

pub returns-clause-low_value : goal.returns-clause-low_value
returns-clause-low_value c =
    let p = c.requires in
    let a = c.args.of in
    let lo = held (omega arith) refl p.0 in
    let hi = held (omega arith) refl p.1 in
    sym (square_zero a.low a.high (sym (ap (λ (z : ℤ). lt_z (pos 0) z) lo) ∙ c.if-of-gt0.false) (sym (ap (λ (z : ℤ). lt_z z (pos 0)) hi) ∙ c.if-of-lt0.false))
