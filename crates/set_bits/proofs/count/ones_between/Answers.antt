use Prim.Native.Nat.{◌*◌}
use native.Mathlib.Omega.{arith}
use mathlib.Core.Path.{sym}
use Rattle.lists.specs.Select.{tally_none}
use Rattle.bits.specs.Bits.{bit_at}
use Rattle.set_bits.proofs.CountLaws.{ones_more}
use Rattle.set_bits.proofs.count.ones_between.Goals as goal

pub loop-w-init : goal.loop-w-init
loop-w-init c = (omega arith, sym (tally_none (bit_at c.args.words.now) (c.args.first * 32)))

pub overflow_add-count : goal.overflow_add-count
overflow_add-count c = omega (arith, c.ones_from-count.ensures.1, c.requires.2)

pub loop-w-preserved : goal.loop-w-preserved
loop-w-preserved c =
    let l = c.loop-w in
    let a = c.args in (
      omega (arith, c.ones_from-count.ensures.1),
      ones_more a.words.now a.first l.w l.count l.auto.w l.invariant.1 c.ones_from-count.ensures.0,
    )
