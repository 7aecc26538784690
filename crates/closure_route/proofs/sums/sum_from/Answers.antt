use native.Mathlib.Omega.{arith}
use mathlib.Core.Path.{sym, ap, ◌∙◌}
use lib.Ieee.{Float, nan}
use Rattle.pair_places.specs.Position.{shift_fits}
use Rattle.closure_route.specs.Sums.{inverse_at, with_product}
use Rattle.closure_route.proofs.SumsLaws.{sum_between_next}
use Rattle.closure_route.proofs.SumLaws.{term_input}
use Rattle.closure_route.proofs.sums.sum_from.Goals as goal

pub column_shift-requires : goal.column_shift-requires
column_shift-requires c = let P = c.requires in (P.small, P.left)

pub overflow_add-base : goal.overflow_add-base
overflow_add-base c = omega (arith, c.queue_start-positions.ensures.0, shift_fits c.args.n c.args.i c.column_shift.result c.requires.small c.requires.left c.column_shift.ensures)

pub loop-p-init : goal.loop-p-init
loop-p-init c = λ s h q. q

pub add_product-sum-requires : goal.add_product-sum-requires
add_product-sum-requires c = let l = c.loop-p in
    let u = c.queue_start-positions.ensures.0 in
    record { positions_value = (u, omega (arith, u, c.column_shift.ensures)); add_product_input = term_input c.requires l.p l.auto.p c.loop-p-test.true }

pub loop-p-preserved : goal.loop-p-preserved
loop-p-preserved c = let l = c.loop-p in
    let a = c.args in
    let r = inverse_at nan a.n a.scratch.now a.result_values.now a.i in
    λ s h q.
    c.add_product-sum.ensures ∙ ap (λ (x : Float). with_product a.rows.now a.values.now a.j r l.p x) (l.invariant s h q)
    ∙ sym (sum_between_next a.rows.now a.values.now a.j r s l.p (omega (arith, l.auto.p)))
