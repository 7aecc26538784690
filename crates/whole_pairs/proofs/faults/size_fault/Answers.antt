use mathlib.Core.Path.{ap, sym, ◌∙◌}
use lib.IntN.{nat_abs}
use mir.Syntax.{w64}
use mir.ValLaws.{to_z-of_z}
use borrow.Author.Tests.{lt-ltb, le-ltb}
use Rattle.lists.specs.Sum.{bit}
use Rattle.whole_pairs.proofs.faults.size_fault.Goals as goal

pub returns-then-most-size : goal.returns-then-most-size
returns-then-most-size c =
    let is = c.size.ensures ∙ ap nat_abs (to_z-of_z w64 c.whole_at.result (record { sfits = c.whole_at.type_inv }) ∙ c.whole_at.ensures) in
    sym (ap bit (lt-ltb _ _ (rw is at c.if-most-size.true)))

pub returns : goal.returns
returns c =
    let is = c.size.ensures ∙ ap nat_abs (to_z-of_z w64 c.whole_at.result (record { sfits = c.whole_at.type_inv }) ∙ c.whole_at.ensures) in
    sym (ap bit (le-ltb _ _ (rw is at c.if-most-size.false)))
