use Prim.Native.Nat.{◌^◌}
use mathlib.Core.Path.{◌≡◌, sym, ap, ◌∙◌}
use mathlib.Core.Bool.{Bool, cond}
use lib.Dec.{lit≤}
use lib.IntN.{ℤ, ◌+ℤ◌}
use mir.Syntax.{w64}
use mir.Val.{to_z, of_z}
use mir.ValLaws.{to_z-of_z}
use Rattle.refusal.specs.Steps.{refused, answered}
use Rattle.integers.proofs.Size.{size_sum}
use Rattle.exact.specs.Checked.{beyond}
use Rattle.whole_steps.specs.Machine.{fits_both}
use Rattle.whole_route.proofs.sums.add_within.Goals as goal
use Rattle.whole_route.proofs.sums.add_within.Goals.{After-is_beyond}

total_is : (c : After-is_beyond) → to_z w64 (of_z w64 c.sum-total.result) ≡ c.args.s +ℤ c.args.x
total_is c =
    to_z-of_z w64 c.sum-total.result (record { sfits = c.sum-total.type_inv }) ∙ c.sum-total.ensures
    ∙ (λ i. to_z-of_z w64 c.args.s c.ranges.s i +ℤ to_z-of_z w64 c.args.x c.ranges.x i)

told : (c : After-is_beyond) → beyond (c.args.s +ℤ c.args.x) ≡ c.is_beyond.result
told c = ap beyond (sym (total_is c)) ∙ sym c.is_beyond.ensures

pub sum-total-requires : goal.sum-total-requires
sum-total-requires c = fits_both ◌+ℤ◌ (to_z-of_z w64 c.args.s c.ranges.s) (to_z-of_z w64 c.args.x c.ranges.x) (lit≤ tt)
    (size_sum {a = c.args.s} {b = c.args.x} {k = 2 ^ 53} {l = 2 ^ 53} (record { size = c.requires.0 }) (record { size = c.requires.1 }))

pub returns-then-is_beyond : goal.returns-then-is_beyond
returns-then-is_beyond c = let a = c.args in
    sym (ap (λ (b : Bool). cond b (refused 20) (answered (a.s +ℤ a.x))) (told (goal.at.returns-then-is_beyond c).After-is_beyond ∙ c.if-is_beyond.true))

pub returns : goal.returns
returns c = let a = c.args in
    let t = (goal.at.returns c).After-is_beyond in
    ap (λ (z : ℤ). answered z) (total_is t)
    ∙ sym (ap (λ (b : Bool). cond b (refused 20) (answered (a.s +ℤ a.x))) (told t ∙ c.if-is_beyond.false))
