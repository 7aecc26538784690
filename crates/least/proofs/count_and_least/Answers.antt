use Rattle.least.specs.Least.{count_and_least_none, count_and_least_some}
use Rattle.lists.specs.Sum.{bit_most}
use lib.Ieee.{of_bits, nan_bits}
use Rattle.least.specs.Least.{negative, least_of, least_of_none, least_of_next}
use Rattle.lists.specs.Select.{tally, tally_none, tally_next, tally_most}
use borrow.Author.Rules.{rules}
use native.Mathlib.Omega.{arith}
use mathlib.Core.Path.{◌≡◌, ap, sym, ◌∙◌}
use lib.ListN.{length}
use Rattle.least.proofs.count_and_least.Goals as goal

pub returns-then-values-eq0 : goal.returns-then-values-eq0
returns-then-values-eq0 c = count_and_least_none c.args.values.now c.if-values-eq0.true

pub float_from_bits-min_value : goal.float_from_bits-min_value
unfolding nan_bits
float_from_bits-min_value c = search rules

pub loop-x-init : goal.loop-x-init
unfolding of_bits
loop-x-init c = (sym (tally_none _ _), sym (least_of_none _))

pub overflow_add-num_negative : goal.overflow_add-num_negative
overflow_add-num_negative c =
    let v = c.args.values.now in
    let i = c.loop-x.x-index in
    omega (arith, c.negative_bit-num_negative.ensures, bit_most (negative v i), tally_most (negative v) 0 i)

pub loop-x-preserved : goal.loop-x-preserved
loop-x-preserved c =
    let l = c.loop-x in
    let v = c.args.values.now in
    (cc (tally_next (negative v) 0 l.x-index (omega arith), l.invariant.0, c.negative_bit-num_negative.ensures), cc (least_of_next v l.x-index, l.invariant.1, c.min-min_value.ensures))

pub returns : goal.returns
returns c =
    let l = c.loop-x in
    let v = c.args.values.now in
    let e : l.x-index ≡ length v = omega arith in
    count_and_least_some _ c.if-values-eq0.false (l.invariant.0 ∙ ap (tally (negative v) 0) e) (l.invariant.1 ∙ ap (least_of v) e)
