use Prim.Native.Nat.{ℕ, ◌<◌}
use native.Mathlib.Omega.{arith}
use mathlib.Core.Path.{◌≡◌, ap, ap₂, sym, subst₂, ◌∙◌}
use mathlib.Core.List.{List}
use lib.ListN.{length, set}
use lib.Ieee.{Float, nan}
use Rattle.lists.specs.Overwrite.{filled, filled_none, filled_more}
use Rattle.pairs.specs.Positions.{inverse_at}
use Rattle.columns.specs.Columns.{value}
use Rattle.columns.specs.Operator.{operator_rows}
use Rattle.exact.specs.Exact.{floats}
use Rattle.quadratic_form.specs.RowValue.{row_value, term_column, operator_value, operator_values}
use Rattle.operator_values.specs.Reading.{CrossValueInput}
use Rattle.operator_values.proofs.ReadingLaws.{row_reading}
use Rattle.operator_values.proofs.operator_values.Goals as goal

-- there is room for its value
room : (c : goal.After-cross_value) → c.loop-i.i < length c.args.output.now
room c = omega (arith, c.loop-i-test.true, c.operator_rows-last.ensures, c.requires.fits)

pub loop-i-init : goal.loop-i-init
loop-i-init c = filled_none _ _

pub cross_value-requires : goal.cross_value-requires
cross_value-requires c = let a = c.args in
    subst₂ (λ (x y : ℕ). CrossValueInput a.n a.columns.now (length a.weights.now) a.columns.now (length a.weights.now) a.scratch.now (length a.result_values.now) x y x y)
    (sym c.at-s.ensures) (sym c.at-e.ensures) (row_reading c.requires c.loop-i.i (omega (arith, c.loop-i-test.true, c.operator_rows-last.ensures)))

pub loop-i-preserved : goal.loop-i-preserved
loop-i-preserved c = let l = c.loop-i in
    let a = c.args in
    let Z = inverse_at nan a.n a.scratch.now a.result_values.now in
    let f = operator_value a.row_starts.now a.columns.now a.weights.now Z in
    let made : c.cross_value.result ≡ f l.i =
    c.cross_value.ensures
    ∙ ap₂ (λ (x y : ℕ). row_value floats (term_column a.columns.now) (value a.weights.now) Z x y) c.at-s.ensures c.at-e.ensures in ap (set l.output l.i) made
    ∙ ap (λ (x : List Float). set x l.i (f l.i)) l.invariant
    ∙ filled_more f a.output.now l.i (room c)

pub returns : goal.returns
unfolding operator_values filled
returns c = let l = c.loop-i in
    let a = c.args in
    let e : l.i ≡ operator_rows a.row_starts.now = omega (arith, c.operator_rows-last.ensures) in
    l.invariant ∙ ap (λ (k : ℕ). filled (operator_value a.row_starts.now a.columns.now a.weights.now (inverse_at nan a.n a.scratch.now a.result_values.now)) k a.output.now) e
