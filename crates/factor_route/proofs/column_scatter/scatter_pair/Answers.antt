use Rattle.factor_route.proofs.ScatterLaws.{ahead_mark, pair_second, pair_start, pair_next, pair_end}
use native.Mathlib.Omega.{arith}
use Rattle.factor_route.proofs.column_scatter.scatter_pair.Goals as goal

pub bounds-values-a : goal.bounds-values-a
bounds-values-a c = let h = pair_second c.requires.0 c.requires.1 c.args.values.now c.args.weights.now c.args.shift c.args.sums.now in
    omega (arith, c.requires.2)

pub bounds-values-a-3 : goal.bounds-values-a-3
bounds-values-a-3 c = let h = pair_second c.requires.0 c.requires.1 c.args.values.now c.args.weights.now c.args.shift c.args.sums.now in
    omega (arith, c.requires.2)

pub loop-t-init : goal.loop-t-init
loop-t-init c = pair_start c.requires.0 c.requires.1 c.args.values.now c.args.weights.now c.args.shift c.args.sums.now

pub find_mark-p-requires : goal.find_mark-p-requires
find_mark-p-requires c = let l = c.loop-t in
    ahead_mark c.requires.0.column c.requires.1 l.q l.t (omega arith) l.invariant.ahead

pub bounds-values-p : goal.bounds-values-p
bounds-values-p c = let h = c.find_mark-p.ensures.below in
    omega (arith, c.requires.2)

pub bounds-values-p-in-loop-t : goal.bounds-values-p-in-loop-t
bounds-values-p-in-loop-t c = let h = c.find_mark-p.ensures.below in
    omega (arith, c.requires.2)

pub overflow_add-q-in-loop-t : goal.overflow_add-q-in-loop-t
overflow_add-q-in-loop-t c = let h = c.find_mark-p.ensures.below in
    omega (arith, c.requires.2)

pub loop-t-preserved : goal.loop-t-preserved
loop-t-preserved c = let l = c.loop-t in
    let p = c.find_mark-p in
    pair_next c.requires.0 c.requires.1 c.args.values.now c.args.weights.now c.args.shift c.args.sums.now l.q l.t p.result
    l.held l.next l.sums (omega arith) p.ensures l.invariant

pub returns : goal.returns
returns c = let l = c.loop-t in
    pair_end c.requires.0 c.requires.1 c.args.values.now c.args.weights.now c.args.shift c.args.sums.now l.q l.t l.held
    l.next l.sums (omega arith) l.invariant
