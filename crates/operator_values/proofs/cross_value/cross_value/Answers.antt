use mathlib.Core.Path.{ap, sym, ◌∙◌}
use lib.Ieee.{Float, nan}
use Rattle.pairs.specs.Positions.{inverse_at}
use Rattle.columns.specs.Columns.{value}
use Rattle.exact.specs.Exact.{floats}
use Rattle.quadratic_form.specs.CrossValue.{with_terms}
use Rattle.quadratic_form.proofs.CrossValue.{sum_before_start, sum_before_next}
use Rattle.quadratic_form.specs.RowValue.{term_column}
use Rattle.operator_values.proofs.ReadingLaws.{one_place}
use Rattle.operator_values.proofs.cross_value.cross_value.Goals as goal

pub loop-a-init : goal.loop-a-init
loop-a-init c = sum_before_start _ _ _ _ _ c.args.s c.args.t c.args.f

pub add_terms-sum-requires : goal.add_terms-sum-requires
add_terms-sum-requires c = one_place c.requires c.loop-a.a c.loop-a.auto.a c.loop-a-test.true

pub loop-a-preserved : goal.loop-a-preserved
loop-a-preserved c = let l = c.loop-a in
    let a = c.args in
    let k = term_column a.a_columns.now in
    let j = term_column a.b_columns.now in
    let w = value a.a_weights.now in
    let v = value a.b_weights.now in
    let Z = inverse_at nan a.n a.scratch.now a.result_values.now in c.add_terms-sum.ensures ∙ ap (λ (x : Float). with_terms floats k j w v Z a.t a.f l.a x) l.invariant
    ∙ sym (sum_before_next floats k j w v Z a.s a.t a.f l.a l.auto.a)
