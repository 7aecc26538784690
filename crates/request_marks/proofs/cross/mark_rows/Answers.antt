use Prim.Native.Nat.{ℕ}
use native.Mathlib.Omega.{arith}
use mathlib.Core.Path.{subst}
use lib.ListN.{get_or}
use Rattle.lists.specs.Test.{any_in_none}
use Rattle.marked_pairs.specs.MarkedPairs.{AlsoMarked, also_none, also_next}
use Rattle.request_marks.specs.CrossRequests.{with_columns}
use Rattle.request_marks.proofs.OperatorLaws.{row_part}
use Rattle.request_marks.proofs.cross.mark_rows.Goals as goal

pub loop-a-init : goal.loop-a-init
loop-a-init c = also_none _ (λ r k. any_in_none _ c.args.s) c.requires.row_input.marked

pub mark_with-count-requires : goal.mark_with-count-requires
mark_with-count-requires c = let l = c.loop-a in
    let x = c.requires.row_input.inside l.a (omega (arith, c.loop-a-test.true, c.requires.row_input.stored)) in
    record { x_lt_n = omega (arith, c.at.ensures); row_input = row_part c.requires.row_input_2 l.invariant.marked c.args.f c.requires.row_input_2.ordered (omega arith) }

pub loop-a-preserved : goal.loop-a-preserved
loop-a-preserved c = let l = c.loop-a in
    let a = c.args in
    let step =
    subst (λ (y : ℕ). AlsoMarked a.n (with_columns y a.b_columns.now a.t a.f) l.scratch c.mark_with-count.new.scratch c.mark_with-count.result)
    c.at.ensures c.mark_with-count.ensures in
    also_next (λ i. with_columns (get_or a.a_columns.now i 0) a.b_columns.now a.t a.f) l.a a.s l.auto.a l.invariant step
