use Prim.Native.Nat.{ℕ, ◌<◌}
use native.Mathlib.Omega.{arith}
use mathlib.Core.Path.{ap, ap₂, sym, subst₂, ◌∙◌}
use lib.ListN.{length, get_or}
use lib.Ieee.{Float, binary64, nan, add, mul}
use Rattle.pairs.specs.Positions.{inverse_at}
use Rattle.pairs.proofs.Positions.{inverse_at_ordered}
use Rattle.columns.specs.Columns.{value}
use Rattle.exact.specs.Exact.{floats}
use Rattle.pair_places.specs.Position.{PairEntryInput, shift_fits}
use Rattle.quadratic_form.proofs.CrossValue.{with_terms_none, with_terms_next}
use Rattle.quadratic_form.specs.RowValue.{term_column}
use Rattle.operator_values.proofs.cross_value.add_terms.Goals as goal
use Rattle.operator_values.proofs.cross_value.add_terms.Goals.{After-queue_start-positions, After-at}

-- the first row's column
own : (c : After-queue_start-positions) → c.at-i.result < c.args.n
own c = omega (arith, c.at-i.ensures, c.requires.inside c.args.a (omega arith) (omega arith))

-- what reading the inverse's entry asks
reads : (c : After-at) →
    let a = c.args in
    PairEntryInput a.n c.at-i.result c.at.result a.scratch.now (length a.result_values.now)
reads c =
    let a = c.args in
    subst₂ (λ (i k : ℕ). PairEntryInput a.n i k a.scratch.now (length a.result_values.now)) (sym c.at-i.ensures) (sym c.at.ensures)
    (c.requires.reads a.a c.loop-b.b (omega arith) (omega arith) c.loop-b.auto.b (omega arith))

pub queue_start-positions-requires : goal.queue_start-positions-requires
queue_start-positions-requires c = c.requires.small

pub column_shift-requires : goal.column_shift-requires
column_shift-requires c = (c.requires.small, own c)

pub overflow_add-base : goal.overflow_add-base
overflow_add-base c = let a = c.args in
    omega (arith, c.queue_start-positions.ensures.0, shift_fits a.n c.at-i.result c.column_shift.result c.requires.small (own (goal.at.overflow_add-base c).After-queue_start-positions) c.column_shift.ensures)

pub loop-b-init : goal.loop-b-init
loop-b-init c = sym (with_terms_none floats _ _ _ _ _ c.args.t c.args.a c.args.first)

pub pair_position-position-requires : goal.pair_position-position-requires
pair_position-position-requires c = (c.queue_start-positions.ensures.0, omega (arith, c.queue_start-positions.ensures.0, c.column_shift.ensures), (reads c).pair)

pub offset_bounds-result_values-position : goal.offset_bounds-result_values-position
offset_bounds-result_values-position c = omega (arith, c.pair_position-position.ensures, (reads (goal.at.offset_bounds-result_values-position c).After-at).known)

pub bounds-result_values-position : goal.bounds-result_values-position
bounds-result_values-position c = omega (arith, c.pair_position-position.ensures, (reads (goal.at.bounds-result_values-position c).After-at).known)

pub loop-b-preserved : goal.loop-b-preserved
loop-b-preserved c = let l = c.loop-b in
    let a = c.args in
    let i = term_column a.a_columns.now a.a in
    let k = term_column a.b_columns.now l.b in
    let Z = inverse_at nan a.n a.scratch.now a.result_values.now in
    let w = value a.a_weights.now in
    let v = value a.b_weights.now in
    let entry =
    ap (λ (p : ℕ). get_or a.result_values.now p nan) c.pair_position-position.ensures
    ∙ ap₂ Z c.at-i.ensures c.at.ensures
    ∙ sym (inverse_at_ordered nan a.n a.scratch.now a.result_values.now i k) in ap₂ (λ (x y : Float). add binary64 x (mul binary64 (mul binary64 (w a.a) (v l.b)) y)) l.invariant entry
    ∙ sym (with_terms_next floats (term_column a.a_columns.now) (term_column a.b_columns.now) w v Z a.t l.b a.a a.first l.auto.b)
