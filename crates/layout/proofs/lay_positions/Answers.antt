use Prim.Native.Nat.{◌<◌, ◌+◌}
use native.Mathlib.Omega.{arith}
use lib.ListN.{length}
use borrow.Author.Rules.{rules}
use Rattle.layout.proofs.LayoutLaws.{positions_none, positions_more}
use Rattle.layout.proofs.lay_positions.Goals as goal

-- the row has a word
inside : (c : goal.After-at-r) → c.args.base + c.at-r.result < length c.loop-q.scratch
inside c =
    let l = c.loop-q in
    omega (arith, c.requires.inside l.q l.auto.q c.loop-q-test.true, c.at-r.ensures, l.invariant.long)

pub loop-q-init : goal.loop-q-init
loop-q-init c = positions_none _ _ _ _ _

pub overflow_add-scratch : goal.overflow_add-scratch
overflow_add-scratch c = let h = inside c in search rules

pub offset_bounds-scratch-base : goal.offset_bounds-scratch-base
offset_bounds-scratch-base c = let h = inside c in search rules

pub bounds-scratch-base : goal.bounds-scratch-base
bounds-scratch-base c = let h = inside c in search rules

pub loop-q-preserved : goal.loop-q-preserved
loop-q-preserved c = let l = c.loop-q in
    positions_more c.requires l.auto.q c.loop-q-test.true c.at-r.ensures l.invariant
