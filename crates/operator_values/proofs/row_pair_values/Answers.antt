use Prim.Native.Nat.{ℕ, ◌+◌, ◌<◌}
use native.Mathlib.Omega.{arith}
use mathlib.Core.Path.{◌≡◌, ap, ap₂, ◌∙◌}
use mathlib.Core.List.{List}
use lib.ListN.{length, set}
use lib.Ieee.{Float, nan}
use Rattle.lists.specs.Overwrite.{filled, filled_none, filled_more}
use Rattle.pairs.specs.Positions.{inverse_at}
use Rattle.columns.specs.Columns as columns
use Rattle.quadratic_form.specs.RowValue.{row_pair_value, row_pair_values}
use Rattle.operator_values.specs.Reading.{CrossValueInput}
use Rattle.operator_values.proofs.ReadingLaws.{pair_reading}
use Rattle.operator_values.proofs.row_pair_values.Invariants.{pair_value}
use Rattle.operator_values.proofs.row_pair_values.Goals as goal

-- a reading at equal rows
same_rows : {n : ℕ} {ac : List ℕ} {aw : ℕ} {bc : List ℕ} {bw : ℕ} {s : List ℕ} {size : ℕ} (as' bs' : List ℕ) {i j i' j' : ℕ} → i ≡ i' → j ≡ j'
    → CrossValueInput n ac aw bc bw s size (columns.start as' i') (columns.start as' (i' + 1)) (columns.start bs' j') (columns.start bs' (j' + 1))
    → CrossValueInput n ac aw bc bw s size (columns.start as' i) (columns.start as' (i + 1)) (columns.start bs' j) (columns.start bs' (j + 1))
same_rows as' bs' x y R = rw (x, y) R

-- there is room for its value
room : (c : goal.After-pair_value) → c.loop-p.p < length c.args.output.now
room c = omega (arith, c.loop-p-test.true, c.requires.fits)

pub loop-p-init : goal.loop-p-init
loop-p-init c = filled_none _ _

pub pair_value-requires : goal.pair_value-requires
pair_value-requires c = let p = c.loop-p.p in
    let h = c.loop-p-test.true in
    let i< = c.requires.pairs.inside p h in
    let j< = c.requires.pairs.inside₂ p h in
    record { i_bound = (omega (arith, c.at.ensures), omega (arith, c.at-in-loop-p.ensures)); cross_value_input = same_rows c.args.a_row_starts.now c.args.b_row_starts.now c.at.ensures c.at-in-loop-p.ensures (pair_reading c.requires p h) }

pub loop-p-preserved : goal.loop-p-preserved
loop-p-preserved c = let l = c.loop-p in
    let a = c.args in
    let Z = inverse_at nan a.n a.scratch.now a.result_values.now in
    let f = pair_value a.a_row_starts.now a.a_columns.now a.a_weights.now a.b_row_starts.now a.b_columns.now a.b_weights.now a.a_rows.now a.b_rows.now Z in
    let made : c.pair_value.result ≡ f l.p =
    c.pair_value.ensures
    ∙ ap₂ (row_pair_value a.a_row_starts.now a.a_columns.now a.a_weights.now a.b_row_starts.now a.b_columns.now a.b_weights.now Z) c.at.ensures c.at-in-loop-p.ensures in ap (set l.output l.p) made
    ∙ ap (λ (x : List Float). set x l.p (f l.p)) l.invariant
    ∙ filled_more f a.output.now l.p (room c)

pub returns : goal.returns
unfolding row_pair_values filled
returns c = let l = c.loop-p in
    let a = c.args in
    let Z = inverse_at nan a.n a.scratch.now a.result_values.now in
    let e : l.p ≡ length a.a_rows.now = omega arith in
    l.invariant ∙ ap (λ (k : ℕ). filled (pair_value a.a_row_starts.now a.a_columns.now a.a_weights.now a.b_row_starts.now a.b_columns.now a.b_weights.now a.a_rows.now a.b_rows.now Z) k a.output.now) e
