use borrow.Author.Tests.{lt-leb}
use Rattle.lists.specs.Test.{any_in_none, any_in_more}
use native.Mathlib.Omega.{arith}
use mathlib.Core.Path.{◌≡◌}
use Rattle.kept_entries.proofs.diagonal.first_from.Goals as goal

pub loop-p-init : goal.loop-p-init
loop-p-init c = any_in_none _ _

pub returns-then-c-at : goal.returns-then-c-at
returns-then-c-at c =
    record { from = c.loop-p.auto.p; upto = omega arith; before = c.loop-p.invariant; stops = λ l. rw c.at.ensures at c.if-c-at.true }

pub loop-p-preserved : goal.loop-p-preserved
loop-p-preserved c = any_in_more _ _ _ c.loop-p.auto.p c.loop-p.invariant (lt-leb _ _ (rw c.at.ensures at c.if-c-at.false))

pub returns : goal.returns
returns c =
    let q : c.loop-p.p ≡ c.args.e = omega arith in
    record { from = c.requires.0; upto = omega arith; before = rw q at c.loop-p.invariant; stops = λ l. absurd (omega arith) }
