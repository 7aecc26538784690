use Prim.Native.Nat.{ℕ, ◌*◌, ◌/◌, ◌^◌, ◌≤◌, ◌<◌}
use native.Mathlib.Omega.{arith}
use native.Mathlib.Nat.{mul-le-mul, mul_comm, zero-mul, div-lt_iff_lt-mul}
use mathlib.Core.Path.{◌≡◌, sym, ap, subst, ◌∙◌}
use lib.Dec.{ltb}
use borrow.Author.Tests.{le-ltb, lt-ltb, ltb-true}
use Rattle.lists.specs.Test.{same_truth}
use Rattle.whole_steps.proofs.product_beyond.Goals as goal

-- a size within the quotient is one whose product is within the whole
by-quotient : (m a b : ℕ) → 0 < a → ltb (m / a) b ≡ ltb m (a * b)
by-quotient m a b h =
    same_truth (ltb (m / a) b) (ltb m (a * b))
    (λ e. lt-ltb m (a * b) (subst (λ (k : ℕ). m < k) (mul_comm b a) ((div-lt_iff_lt-mul h).0 (ltb-true (m / a) b e))))
    (λ e. lt-ltb (m / a) b ((div-lt_iff_lt-mul h).1 (subst (λ (k : ℕ). m < k) (mul_comm a b) (ltb-true m (a * b) e))))

pub returns-then-b-le134217728 : goal.returns-then-b-le134217728
returns-then-b-le134217728 c = let h : c.args.a * c.args.b ≤ 2 ^ 53 = mul-le-mul {n₂ = 67108864} {m₂ = 134217728} c.if-a-le67108864.true c.if-b-le134217728.true in
    sym (le-ltb (2 ^ 53) (c.args.a * c.args.b) h)

pub returns-then-a-eq0 : goal.returns-then-a-eq0
returns-then-a-eq0 c = sym (ap (λ (k : ℕ). ltb (2 ^ 53) (k * c.args.b)) c.if-a-eq0.true ∙ ap (ltb (2 ^ 53)) (zero-mul c.args.b) ∙ le-ltb (2 ^ 53) 0 (omega arith))

pub returns : goal.returns
returns c = by-quotient (2 ^ 53) c.args.a c.args.b (omega (arith, c.if-a-eq0.false))
