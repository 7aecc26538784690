use Prim.Native.Nat.{ℕ}
use native.Mathlib.Omega.{arith}
use mathlib.Core.Path.{sym, subst}
use lib.ListN.{get_or}
use Rattle.lists.specs.Test.{any_in_none}
use Rattle.pairs.specs.Pair.{ordered}
use Rattle.marked_pairs.specs.MarkedPairs.{InsertInput, AlsoMarked, also_none, also_next}
use Rattle.request_marks.proofs.cross.mark_with.Goals as goal

pub loop-b-init : goal.loop-b-init
loop-b-init c = also_none _ (λ r k. any_in_none _ c.args.t) c.requires.row_input.marked

pub insert_closure_pair-count-requires : goal.insert_closure_pair-count-requires
insert_closure_pair-count-requires c = let l = c.loop-b in
    subst (λ (y : ℕ). InsertInput c.args.n c.args.x y l.scratch l.count) (sym c.at.ensures)
    (record { small = c.requires.row_input.small; first = c.requires.x_lt_n; second = c.requires.row_input.inside l.b (omega (arith, c.loop-b-test.true, c.requires.row_input.stored)); marked = l.invariant.marked })

pub loop-b-preserved : goal.loop-b-preserved
loop-b-preserved c = let l = c.loop-b in
    let step =
    subst (λ (y : ℕ). AlsoMarked c.args.n (ordered c.args.x y) l.scratch c.insert_closure_pair-count.new.scratch c.insert_closure_pair-count.result)
    c.at.ensures c.insert_closure_pair-count.ensures.also in
    also_next (λ b. ordered c.args.x (get_or c.args.columns.now b 0)) l.b c.args.t l.auto.b l.invariant step
