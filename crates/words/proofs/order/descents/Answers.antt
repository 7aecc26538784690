use Rattle.lists.specs.Select.{picked, select, tally_none, tally_next, tally_most}
use Rattle.lists.specs.Sum.{bit}
use Rattle.columns.specs.Columns.{not_above}
use borrow.Author.Tests.{le-leb, lt-leb}
use native.Mathlib.Omega.{arith}
use Prim.Native.Nat.{ℕ, ◌-◌, ◌+◌}
use mathlib.Core.Path.{◌≡◌, ap, sym, ◌∙◌}
use lib.ListN.{length}
use Rattle.words.proofs.order.descents.Goals as goal
use Rattle.words.proofs.order.descents.Goals.{then-rows-p, else-rows-p}

pub loop-p-init : goal.loop-p-init
loop-p-init c = (omega arith, sym (tally_none _ _))

pub overflow_add-count : goal.overflow_add-count
overflow_add-count c = omega (arith, tally_most (not_above c.args.rows.now) (c.args.s + 1) c.loop-p.p)

pub loop-p-preserved : goal.loop-p-preserved
loop-p-preserved c =
    let n = tally_next (not_above c.args.rows.now) (c.args.s + 1) c.loop-p.p c.loop-p.auto.p in (
      omega arith,
      elim c.if-rows-p.branch [
        | then-rows-p w ↦ omega (arith, n, ap bit (le-leb _ _ w.if-rows-p.true))
        | else-rows-p w ↦ omega (arith, n, ap bit (lt-leb _ _ w.if-rows-p.false))
      ],
    )

pub returns : goal.returns
unfolding select
returns c =
    let p = c.loop-p.p in
    let a = c.args in
    let q : p - (a.s + 1) ≡ a.e - (a.s + 1) = omega arith in
    c.loop-p.invariant.1 ∙ ap (λ (k : ℕ). length (picked (not_above a.rows.now) (a.s + 1) k)) q
