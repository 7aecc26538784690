use Prim.Native.Nat.{◌*◌, ◌^◌, ◌≤◌}
use native.Mathlib.Omega.{arith}
use mathlib.Core.Path.{sym, ◌∙◌}
use mathlib.Core.Bool.{false≢true}
use borrow.Author.Tests.{ltb-false}
use Rattle.whole_route.proofs.column_sums.sums_fit.Goals as goal

-- the greatest product
product : (c : goal.Else-product_beyond) → c.greatest_size-greatest.result * c.args.most ≤ 2 ^ 53
product c = ltb-false (2 ^ 53) _ (sym c.product_beyond.ensures ∙ c.if-product_beyond.false)

pub greatest_size-greatest-requires : goal.greatest_size-greatest-requires
greatest_size-greatest-requires c = c.requires

pub returns-then-product_beyond : goal.returns-then-product_beyond
returns-then-product_beyond c t = absurd (false≢true t)

pub overflow_sub-e : goal.overflow_sub-e
overflow_sub-e c = let P = c.requires in omega (arith, P.0)

pub overflow_mul-greatest : goal.overflow_mul-greatest
overflow_mul-greatest c = let h = product c in record { fits = omega (arith, h) }

pub returns-then-product_beyond-2 : goal.returns-then-product_beyond-2
returns-then-product_beyond-2 c t = absurd (false≢true t)

pub returns : goal.returns
returns c t = let g = c.greatest_size-greatest in
    record { greatest = g.result; sizes = g.ensures.sizes; few = ltb-false (2 ^ 53) _ (sym c.product_beyond-2.ensures ∙ c.if-product_beyond-2.false) }
