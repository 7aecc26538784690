use Rattle.factor_route.proofs.WalkLaws.{scattered_none, scattered_next, scattered_end}
use borrow.Author.Rules.{rules}
use native.Mathlib.Omega.{arith}
use Rattle.factor_route.proofs.column_scatter.scatter_columns.Goals as goal

pub loop-c-init : goal.loop-c-init
loop-c-init c = let z = c.args in
    (search rules, scattered_none z.starts.now z.rows.now z.values.now z.b z.m z.weights.now z.sums.now)

pub scatter_from-c-requires : goal.scatter_from-c-requires
scatter_from-c-requires c = (c.requires.0, c.requires.1, c.requires.2, omega arith)

pub loop-c-smaller : goal.loop-c-smaller
loop-c-smaller c = let h = c.scatter_from-c.ensures.further in
    let k = c.scatter_from-c.ensures.upto in
    omega arith

pub loop-c-preserved : goal.loop-c-preserved
loop-c-preserved c = let z = c.args in
    let l = c.loop-c in (
      c.scatter_from-c.ensures.upto,
      scattered_next z.starts.now z.rows.now z.values.now z.b z.m z.weights.now z.sums.now l.c c.scatter_from-c.result
          l.sums _ l.invariant.1 c.scatter_from-c.ensures,
    )

pub returns : goal.returns
returns c = let z = c.args in
    let l = c.loop-c in
    scattered_end z.starts.now z.rows.now z.values.now z.b z.m z.weights.now z.sums.now l.c l.sums (omega arith)
    l.invariant.1
