use mathlib.Core.List.{List}
use mathlib.Core.Path.{◌∙◌, ap₂}
use native.Mathlib.Omega.{arith}
use Prim.Native.Nat.{◌<◌}
use lib.IntN.{ℤ}
use lib.ListN.{length, set}
use mir.Syntax.{w64}
use mir.ValLaws.{to_z-of_z}
use Rattle.lists.specs.Overwrite.{filled_none, filled_more}
use Rattle.columns.specs.WholeFactor.{whole_value}
use Rattle.whole_steps.proofs.whole_lists.copy_wholes.Goals as goal

pub loop-i-init : goal.loop-i-init
loop-i-init c = filled_none _ _

pub loop-i-preserved : goal.loop-i-preserved
loop-i-preserved c =
    let l = c.loop-i in
    let a = c.args in
    let z = to_z-of_z w64 c.whole_at.result (record { sfits = c.whole_at.type_inv }) ∙ c.whole_at.ensures in
    let room : l.i < length a.to.now = omega (arith, c.requires.1) in
    ap₂ (λ (x : List ℤ) (y : ℤ). set x l.i y) l.invariant z ∙ filled_more (whole_value a.from.now) a.to.now l.i room
