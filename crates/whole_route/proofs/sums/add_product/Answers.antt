use Prim.Native.Nat.{ℕ, ◌*◌, ◌^◌, ◌≤◌}
use native.Mathlib.Omega.{arith}
use mathlib.Core.Path.{◌≡◌, sym, ap, ap₂, subst, subst₂, ◌∙◌}
use mathlib.Core.Bool.{Bool, cond}
use lib.Dec.{ltb}
use lib.IntN.{ℤ, nat_abs, ◌*ℤ◌}
use mir.Syntax.{w64}
use mir.Val.{SFits, to_z, of_z}
use mir.ValLaws.{to_z-of_z}
use borrow.Author.Rules.{rules}
use borrow.Author.Tests.{ltb-false}
use Rattle.refusal.specs.Steps.{Reply, refused, answered}
use Rattle.integers.proofs.Integer.{nat_abs_*}
use Rattle.integers.proofs.Size.{size_fits}
use Rattle.exact.specs.Multiple.{Small}
use Rattle.exact.specs.Checked.{beyond}
use Rattle.exact.specs.Checked.{plus_product}
use Rattle.whole_route.specs.Number.{number_reply, SmallNumber, sum_reply}
use Rattle.whole_route.proofs.sums.add_product.Goals as goal
use Rattle.whole_route.proofs.sums.add_product.Goals.{In_ok-s, After-product_beyond, Else-product_beyond}

fits_sum : (c : In_ok-s) → SFits w64 c.in_ok-s.s
fits_sum c = search rules

sum_is : (c : In_ok-s) → number_reply c.args.sum ≡ answered c.in_ok-s.s
sum_is c = ap number_reply c.in_ok-s.was

-- whether the product is beyond
told : (c : After-product_beyond) → beyond (c.args.l *ℤ c.args.z) ≡ c.product_beyond.result
told c =
    ap (ltb (2 ^ 53)) (nat_abs_* c.args.l c.args.z
    ∙ sym (ap₂ ◌*◌ (c.size.ensures ∙ ap nat_abs (to_z-of_z w64 c.args.l c.ranges.l))
    (c.size-2.ensures ∙ ap nat_abs (to_z-of_z w64 c.args.z c.ranges.z))))
    ∙ sym c.product_beyond.ensures

-- the sum's reply, by that
by : (c : After-product_beyond) (t : Bool) → c.product_beyond.result ≡ t
    → plus_product (number_reply c.args.sum) c.args.l c.args.z
    ≡ cond t (refused 20) (sum_reply c.in_ok-s.s (c.args.l *ℤ c.args.z))
by c t e =
    let a = c.args in
    ap (λ (r : Reply ℤ). plus_product r a.l a.z) (ap number_reply c.in_ok-s.was)
    ∙ ap (λ (q : Bool). cond q (refused 20) (sum_reply c.in_ok-s.s (a.l *ℤ a.z))) (told c ∙ e)

-- the sizes
within : (c : Else-product_beyond) → nat_abs (to_z w64 (of_z w64 c.args.l)) * nat_abs (to_z w64 (of_z w64 c.args.z)) ≤ 2 ^ 53
within c =
    subst₂ (λ (x y : ℕ). x * y ≤ 2 ^ 53) c.size.ensures c.size-2.ensures
    (ltb-false (2 ^ 53) _ (sym c.product_beyond.ensures ∙ c.if-product_beyond.false))

pub returns-in_err-s : goal.returns-in_err-s
returns-in_err-s c = rw c.from_residual.ensures (sym (ap (λ (r : Reply ℤ). plus_product r c.args.l c.args.z) (ap number_reply c.in_err-s.was)))

pub returns-then-product_beyond : goal.returns-then-product_beyond
returns-then-product_beyond c = sym (by (goal.at.returns-then-product_beyond c).After-product_beyond _ c.if-product_beyond.true)

pub product-requires : goal.product-requires
product-requires c = size_fits (record { size = omega (arith, nat_abs_* (to_z w64 (of_z w64 c.args.l)) (to_z w64 (of_z w64 c.args.z)), within c) })

pub add_within-requires : goal.add_within-requires
add_within-requires c = let a = goal.at.add_within-requires c in (
  subst Small (sym (to_z-of_z w64 c.in_ok-s.s (fits_sum a.In_ok-s))) (subst SmallNumber (sum_is a.In_ok-s) c.requires.0),
  omega (
    arith,
    ap nat_abs (to_z-of_z w64 c.product.result (record { sfits = c.product.type_inv })),
    ap nat_abs c.product.ensures,
    nat_abs_* (to_z w64 (of_z w64 c.args.l)) (to_z w64 (of_z w64 c.args.z)),
    within a.Else-product_beyond,
  ),
)

pub returns : goal.returns
returns c = let a = goal.at.returns c in
    let p : to_z w64 (of_z w64 c.product.result) ≡ c.args.l *ℤ c.args.z =
    to_z-of_z w64 c.product.result (record { sfits = c.product.type_inv }) ∙ c.product.ensures
    ∙ (λ i. to_z-of_z w64 c.args.l c.ranges.l i *ℤ to_z-of_z w64 c.args.z c.ranges.z i) in
    c.add_within.ensures ∙ ap₂ sum_reply (to_z-of_z w64 c.in_ok-s.s (fits_sum a.In_ok-s)) p ∙ sym (by a.After-product_beyond _ c.if-product_beyond.false)
