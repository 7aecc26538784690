use native.Mathlib.Omega.{arith}
use mathlib.Core.Path.{◌≡◌, ap₂, sym, ◌∙◌}
use lib.IntN.{ℤ}
use Rattle.integers.proofs.Size.{size_is}
use Rattle.whole_steps.specs.Machine.{held, held_size}
use Rattle.weight_bounds.specs.Bounds.{least_times, greatest_times}
use Rattle.whole_pairs.specs.Entry.{entry_or_zero}
use Rattle.weight_ranges.proofs.Sizes.{weights_sizes}
use Rattle.weight_ranges.proofs.terms.term_range.Goals as goal

same-three : (f : ℤ → ℤ → ℤ → ℤ) {a b c a' b' c' : ℤ} → a ≡ a' → b ≡ b' → c ≡ c' → f a b c ≡ f a' b' c'
same-three f x y z = rw (x, y, z)

pub times_range-requires : goal.times_range-requires
times_range-requires c =
    let a = c.args in
    let R = c.requires.ranges_ready in
    let h = c.requires.a_in_bounds.0 in
    let l = c.requires.a_in_bounds.1 in
    let z = weights_sizes R a.a a.b h l in
    let e = c.entry_or_zero.ensures ∙ ap₂ (entry_or_zero a.starts.now a.rows.now a.values.now) c.at.ensures c.at-2.ensures in
    (held_size (omega arith) e (R.entry a.a a.b h l), size_is (sym c.weight_product_range.ensures.low_value) z.0, size_is (sym c.weight_product_range.ensures.high_value) z.1)

pub returns : goal.returns
returns c =
    let a = c.args in
    let R = c.requires.ranges_ready in
    let h = c.requires.a_in_bounds.0 in
    let l = c.requires.a_in_bounds.1 in
    let w = c.weight_product_range.ensures in
    let e = c.entry_or_zero.ensures ∙ ap₂ (entry_or_zero a.starts.now a.rows.now a.values.now) c.at.ensures c.at-2.ensures in
    let x = held (omega arith) e (R.entry a.a a.b h l) in
    record {
      low_value = c.times_range.ensures.low_value ∙ same-three least_times x w.low_value w.high_value;
      high_value = c.times_range.ensures.high_value ∙ same-three greatest_times x w.low_value w.high_value;
    }
