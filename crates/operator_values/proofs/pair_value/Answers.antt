use Prim.Native.Nat.{ℕ}
use native.Mathlib.Omega.{arith}
use mathlib.Core.Path.{◌≡◌, ◌∙◌}
use mathlib.Core.List.{List}
use lib.Ieee.{Float, nan}
use Rattle.pairs.specs.Positions.{inverse_at}
use Rattle.columns.specs.Columns.{value}
use Rattle.exact.specs.Exact.{floats}
use Rattle.quadratic_form.specs.CrossValue.{cross_value}
use Rattle.quadratic_form.specs.RowValue.{term_column}
use Rattle.operator_values.specs.Reading.{CrossValueInput}
use Rattle.operator_values.proofs.pair_value.Goals as goal

-- a reading, and a value, at equal places
same_places : {n : ℕ} {ac : List ℕ} {aw : ℕ} {bc : List ℕ} {bw : ℕ} {s : List ℕ} {size a b d e a' b' d' e' : ℕ} → a ≡ a' → b ≡ b' → d ≡ d' → e ≡ e'
    → CrossValueInput n ac aw bc bw s size a' b' d' e' → CrossValueInput n ac aw bc bw s size a b d e
same_places x y z w R = rw (x, y, z, w) R

same-value : (f : ℕ → ℕ → ℕ → ℕ → Float) {a b d e a' b' d' e' : ℕ} → a ≡ a' → b ≡ b' → d ≡ d' → e ≡ e' → f a b d e ≡ f a' b' d' e'
same-value f x y z w = rw (x, y, z, w)

pub at-s-requires : goal.at-s-requires
at-s-requires c = omega (arith, c.requires.i_bound.0)

pub overflow_add-i : goal.overflow_add-i
overflow_add-i c = omega (arith, c.requires.i_bound.0)

pub at-e-requires : goal.at-e-requires
at-e-requires c = omega (arith, c.requires.i_bound.0)

pub at-t-requires : goal.at-t-requires
at-t-requires c = omega (arith, c.requires.i_bound.1)

pub overflow_add-j : goal.overflow_add-j
overflow_add-j c = omega (arith, c.requires.i_bound.1)

pub at-f-requires : goal.at-f-requires
at-f-requires c = omega (arith, c.requires.i_bound.1)

pub cross_value-requires : goal.cross_value-requires
cross_value-requires c = same_places c.at-s.ensures c.at-e.ensures c.at-t.ensures c.at-f.ensures c.requires.cross_value_input

pub returns : goal.returns
returns c = let a = c.args in
    c.cross_value.ensures
    ∙ same-value
    (cross_value floats (term_column a.a_columns.now) (term_column a.b_columns.now) (value a.a_weights.now) (value a.b_weights.now) (inverse_at nan a.n a.scratch.now a.result_values.now))
    c.at-s.ensures c.at-e.ensures c.at-t.ensures c.at-f.ensures
