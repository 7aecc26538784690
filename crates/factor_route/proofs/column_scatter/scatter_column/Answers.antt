use Rattle.factor_route.proofs.ScatterLaws.{ahead_mark, column_start, column_next, column_end_lem}
use native.Mathlib.Omega.{arith}
use Rattle.factor_route.proofs.column_scatter.scatter_column.Goals as goal

pub loop-t-init : goal.loop-t-init
loop-t-init c = column_start c.requires.0 c.args.values.now c.args.weights.now c.requires.1 c.args.sums.now

pub find_mark-p-requires : goal.find_mark-p-requires
find_mark-p-requires c = let l = c.loop-t in
    ahead_mark c.requires.0 c.requires.1 l.q l.t (omega arith) l.invariant.ahead

pub bounds-values-p : goal.bounds-values-p
bounds-values-p c = let h = c.find_mark-p.ensures.below in
    omega (arith, c.requires.2)

pub overflow_add-q-in-loop-t : goal.overflow_add-q-in-loop-t
overflow_add-q-in-loop-t c = let h = c.find_mark-p.ensures.below in
    omega (arith, c.requires.2)

pub loop-t-preserved : goal.loop-t-preserved
loop-t-preserved c = let l = c.loop-t in
    let p = c.find_mark-p in
    column_next c.requires.0 c.args.values.now c.args.weights.now c.requires.1 c.args.sums.now l.q l.t p.result l.held l.sums
    (omega arith) p.ensures l.invariant

pub returns : goal.returns
returns c = let l = c.loop-t in
    column_end_lem c.requires.0 c.args.values.now c.args.weights.now c.requires.1 c.args.sums.now l.q l.t l.held l.sums (omega arith)
    l.invariant
