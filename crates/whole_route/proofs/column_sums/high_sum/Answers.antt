use native.Mathlib.Omega.{arith}
use mathlib.Core.Path.{◌≡◌, sym, ◌∙◌}
use mir.Syntax.{w64}
use mir.ValLaws.{to_z-of_z}
use Rattle.whole_route.specs.ColumnSums.{word_term}
use Rattle.whole_route.proofs.ColumnSumLaws.{sum_from_none, high_term_input, high_next}
use Rattle.whole_route.proofs.column_sums.high_sum.Goals as goal

pub loop-p-init : goal.loop-p-init
loop-p-init c = let a = c.args in sym (sum_from_none (word_term a.base a.rows.now a.values.now a.scratch.now a.work.now) a.f)

pub add_high_term-total-requires : goal.add_high_term-total-requires
add_high_term-total-requires c = let l = c.loop-p in
    high_term_input c.requires l.auto.p c.loop-p-test.true l.invariant

pub loop-p-preserved : goal.loop-p-preserved
loop-p-preserved c = let l = c.loop-p in
    to_z-of_z w64 c.add_high_term-total.result (record { sfits = c.add_high_term-total.type_inv }) ∙ c.add_high_term-total.ensures
    ∙ high_next c.requires l.auto.p l.invariant

pub returns : goal.returns
returns c = let l = c.loop-p in
    let e : l.p ≡ c.args.e = omega (arith, c.requires.ordered) in
    rw e at l.invariant
