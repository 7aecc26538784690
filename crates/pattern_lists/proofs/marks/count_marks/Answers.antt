use Prim.Native.Nat.{◌+◌}
use native.Mathlib.Omega.{arith}
use mathlib.Core.Path.{◌≡◌, ◌∙◌}
use Rattle.pattern_lists.proofs.CountLaws.{before, count_none, count_more, count_most, count_all}
use Rattle.pattern_lists.proofs.marks.count_marks.Goals as goal

-- eight words more
more : (c : goal.After-count_eight-count)
    → c.loop-w.count + c.count_eight-count.result ≡ before c.args.end c.args.marks.now (c.skip_zeros-w.result + 8)
more c =
    let a = c.args in
    count_more a.end a.marks.now c.skip_zeros-w.ensures.before c.loop-w.invariant c.count_eight-count.ensures

pub loop-w-init : goal.loop-w-init
loop-w-init c = count_none c.args.end c.args.marks.now

pub count_eight-count-requires : goal.count_eight-count-requires
count_eight-count-requires c = (c.requires, c.skip_zeros-w.ensures.before.upto)

pub overflow_add-count : goal.overflow_add-count
overflow_add-count c = omega (arith, more c, count_most c.args.end c.args.marks.now (c.skip_zeros-w.result + 8), c.requires.small)

pub overflow_add-w : goal.overflow_add-w
overflow_add-w c = omega (arith, c.skip_zeros-w.ensures.before.upto, c.requires.few)

pub loop-w-smaller : goal.loop-w-smaller
loop-w-smaller c = omega (arith, c.skip_zeros-w.ensures.before.from, c.loop-w-test.true)

pub loop-w-preserved : goal.loop-w-preserved
loop-w-preserved c = more c

pub returns : goal.returns
returns c = let l = c.loop-w in
    l.invariant ∙ count_all c.args.end c.args.marks.now c.requires l.w (omega (arith, c.loop-w-test.false))
