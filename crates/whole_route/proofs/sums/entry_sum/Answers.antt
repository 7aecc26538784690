use native.Mathlib.Omega.{arith}
use mathlib.Core.Path.{◌≡◌, sym, ap, subst, ◌∙◌}
use lib.IntN.{ℤ}
use Rattle.refusal.specs.Steps.{Reply}
use Rattle.pair_places.specs.Position.{shift_fits}
use Rattle.whole_route.specs.Number.{number_reply, SmallNumber}
use Rattle.whole_route.specs.Sums.{whole_inverse_at, with_entry}
use Rattle.whole_route.proofs.SumLaws.{sum_none, sum_next, entry_small, term_input}
use Rattle.whole_route.proofs.sums.entry_sum.Goals as goal

pub column_shift-requires : goal.column_shift-requires
column_shift-requires c = let P = c.requires in (P.small, P.left)

pub overflow_add-base : goal.overflow_add-base
overflow_add-base c = omega (arith, c.queue_start-positions.ensures.0, shift_fits c.args.n c.args.i c.column_shift.result c.requires.small c.requires.left c.column_shift.ensures)

pub loop-p-init : goal.loop-p-init
loop-p-init c = (sum_none _ _ _ _ _, omega arith)

pub add_entry-sum-requires : goal.add_entry-sum-requires
add_entry-sum-requires c = let l = c.loop-p in
    let u = c.queue_start-positions.ensures.0 in
    record { positions_value = (u, omega (arith, u, c.column_shift.ensures), l.invariant.1); term_input = term_input c.requires l.p l.auto.p c.loop-p-test.true }

pub loop-p-preserved : goal.loop-p-preserved
loop-p-preserved c = let l = c.loop-p in
    let a = c.args in
    let r = whole_inverse_at a.n a.scratch.now a.inverse.now a.i in (
      c.add_entry-sum.ensures ∙ ap (λ (x : Reply ℤ). with_entry a.rows.now a.values.now a.j r l.p x) l.invariant.0
          ∙ sym (sum_next a.rows.now a.values.now a.j r a.s l.p l.auto.p),
      subst SmallNumber (sym c.add_entry-sum.ensures) (entry_small a.rows.now a.values.now a.j r l.p (number_reply l.sum) l.invariant.1),
    )

pub returns : goal.returns
returns c = let l = c.loop-p in
    let e : l.p ≡ c.args.e = omega (arith, c.requires.column.ordered) in
    rw e at l.invariant.0
