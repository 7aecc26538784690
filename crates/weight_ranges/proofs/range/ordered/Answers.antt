use mathlib.Core.Path.{◌≡◌, sym, ap₂, ◌∙◌}
use mathlib.Core.Bool.{true, false}
use lib.Signed.{le_z}
use mir.Syntax.{w64}
use mir.ValLaws.{to_z-of_z}
use Rattle.integers.proofs.MinMax.{minℤ_yes, minℤ-no, maxℤ_yes, maxℤ-no}
use Rattle.weight_ranges.proofs.range.ordered.Goals as goal

pub returns-then-x-y : goal.returns-then-x-y
returns-then-x-y c = let x = to_z-of_z w64 c.args.x c.ranges.x in
    let y = to_z-of_z w64 c.args.y c.ranges.y in
    let t : le_z c.args.x c.args.y ≡ true = sym (ap₂ le_z x y) ∙ c.if-x-y.true in
    record { low_value = x ∙ sym (minℤ_yes c.args.x c.args.y t); high_value = y ∙ sym (maxℤ_yes c.args.x c.args.y t) }

pub returns : goal.returns
returns c = let x = to_z-of_z w64 c.args.x c.ranges.x in
    let y = to_z-of_z w64 c.args.y c.ranges.y in
    let t : le_z c.args.x c.args.y ≡ false = sym (ap₂ le_z x y) ∙ c.if-x-y.false in
    record { low_value = y ∙ sym (minℤ-no c.args.x c.args.y t); high_value = x ∙ sym (maxℤ-no c.args.x c.args.y t) }
