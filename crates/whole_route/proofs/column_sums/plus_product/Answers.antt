use Prim.Native.Nat.{◌^◌}
use mathlib.Core.Path.{◌≡◌, ◌∙◌}
use lib.Dec.{lit≤}
use lib.IntN.{◌+ℤ◌, ◌*ℤ◌}
use mir.Syntax.{w64}
use mir.Val.{to_z, of_z}
use mir.ValLaws.{to_z-of_z}
use Rattle.whole_steps.specs.Machine.{fits_both}
use Rattle.whole_route.proofs.column_sums.plus_product.Goals as goal

product_is-After-product : (p : goal.After-product) → to_z w64 (of_z w64 p.product.result) ≡ p.args.l *ℤ p.args.z
product_is-After-product p =
    to_z-of_z w64 p.product.result (record { sfits = p.product.type_inv }) ∙ p.product.ensures
    ∙ (λ i. to_z-of_z w64 p.args.l p.ranges.l i *ℤ to_z-of_z w64 p.args.z p.ranges.z i)

product_is-After-sum : (p : goal.After-sum) → to_z w64 (of_z w64 p.product.result) ≡ p.args.l *ℤ p.args.z
product_is-After-sum p =
    to_z-of_z w64 p.product.result (record { sfits = p.product.type_inv }) ∙ p.product.ensures
    ∙ (λ i. to_z-of_z w64 p.args.l p.ranges.l i *ℤ to_z-of_z w64 p.args.z p.ranges.z i)

pub product-requires : goal.product-requires
product-requires c = fits_both ◌*ℤ◌ {k = 2 ^ 53} (to_z-of_z w64 c.args.l c.ranges.l) (to_z-of_z w64 c.args.z c.ranges.z) (lit≤ tt) (record { size = c.requires.0 })

pub sum-requires : goal.sum-requires
sum-requires c = fits_both ◌+ℤ◌ {k = 2 ^ 53} (to_z-of_z w64 c.args.s c.ranges.s) (product_is-After-product c) (lit≤ tt) (record { size = c.requires.1 })

pub returns : goal.returns
returns c = to_z-of_z w64 c.sum.result (record { sfits = c.sum.type_inv }) ∙ c.sum.ensures
    ∙ (λ i. to_z-of_z w64 c.args.s c.ranges.s i +ℤ product_is-After-sum c i)
