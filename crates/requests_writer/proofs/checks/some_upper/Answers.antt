use borrow.Author.Rules.{rules}
use native.Mathlib.Omega.{arith}
use Prim.Native.Nat.{◌≤◌, ◌<◌}
use mathlib.Core.Path.{sym}
use lib.ListN.{get_or}
use borrow.Author.Tests.{lt-ltb, le-ltb}
use Rattle.lists.specs.Test.{any_none, any_more, any-hit, any_less}
use Rattle.requests_writer.specs.Writer.{some_upper}
use Rattle.requests_writer.proofs.checks.some_upper.Goals as goal

pub loop-k-init : goal.loop-k-init
loop-k-init c = any_none _

pub returns-then-at : goal.returns-then-at
unfolding some_upper
returns-then-at c = let l = c.loop-k in
    let a = c.args in
    let h : get_or a.rows.now l.k 0 < get_or a.columns.now l.k 0 = omega (arith, c.if-at.true, c.at.ensures, c.at-in-loop-k.ensures) in
    sym (any-hit _ _ l.k (search rules) (lt-ltb _ _ h))

pub loop-k-preserved : goal.loop-k-preserved
loop-k-preserved c = let l = c.loop-k in
    let a = c.args in
    let h : get_or a.columns.now l.k 0 ≤ get_or a.rows.now l.k 0 = omega (arith, c.if-at.false, c.at.ensures, c.at-in-loop-k.ensures) in
    any_more _ _ l.invariant (le-ltb _ _ h)

pub returns : goal.returns
unfolding some_upper
returns c = sym (any_less _ _ _ c.loop-k.invariant (search rules))
