use native.Mathlib.Omega.{arith}
use Prim.Native.Nat.{◌/◌}
use Rattle.matrix_market.proofs.Decimal.{decimal_some, decimal_short, decimal_longer, decimal_less}
use Rattle.requests_writer.proofs.numbers.number_length.Goals as goal

pub overflow_add-m : goal.overflow_add-m
overflow_add-m c = let l = c.loop-y in
    omega (arith, l.invariant.0, l.invariant.1, decimal_longer l.y c.loop-y-test.true, decimal_some (l.y / 10), decimal_less c.args.x (omega (arith, l.invariant.1, c.loop-y-test.true)))

pub loop-y-preserved : goal.loop-y-preserved
loop-y-preserved c = let l = c.loop-y in (omega (arith, l.invariant.0, decimal_longer l.y c.loop-y-test.true), omega (arith, l.invariant.1))

pub returns : goal.returns
returns c = let l = c.loop-y in omega (arith, l.invariant.0, decimal_short l.y c.loop-y-test.false)
