use native.Mathlib.Omega.{arith}
use Prim.Native.Nat.{◌≤◌, ◌/◌, ◌^◌}
use lib.Count.{ones}
use Rattle.lists.specs.Select.{tally_most}
use Rattle.set_bits.specs.Counted.{digit_test}
use Rattle.set_bits.proofs.CountLaws.{ones-shifted}
use Rattle.set_bits.proofs.count.ones_from.Goals as goal

-- the ones of the shifted word fit
few : (c : goal.Start) → ones (c.args.w / 2 ^ c.args.k) ≤ 32
few c =
    let a = c.args in
    omega (arith, ones-shifted a.w a.k c.requires c.ranges.w.fits, tally_most (digit_test a.w) a.k 32)

pub overflow_cast-result-2 : goal.overflow_cast-result-2
overflow_cast-result-2 c = record { fits = omega (arith, few c) }

pub returns : goal.returns
returns c = (ones-shifted c.args.w c.args.k c.requires c.ranges.w.fits, few c)
