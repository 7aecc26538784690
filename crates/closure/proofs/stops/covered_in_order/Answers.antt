use Prim.Native.Nat.{ℕ, ◌+◌, ◌-◌, ◌≤◌, ◌<◌}
use native.Mathlib.Omega.{arith}
use mathlib.Core.Path.{◌≡◌, refl, sym, ap, ◌∙◌}
use mathlib.Core.Bool.{Bool, true, false, false≢true}
use borrow.Author.Tests.{eqb-true}
use Rattle.lists.specs.Sum.{bit}
use Rattle.lists.specs.Select.{tally, tally_join, tally_next, tally_most}
use Rattle.closure.specs.Covered.{covered_order}
use Rattle.closure.proofs.stops.covered_in_order.Goals as goal

-- where as many pass as there are, each passes
all_pass : (test : ℕ → Bool) (s e : ℕ) → tally test s e ≡ e - s → (p : ℕ) → s ≤ p → p < e → test p ≡ true
all_pass test s e all p lo hi = go (test p) refl
  where
    go : (b : Bool) → test p ≡ b → b ≡ true
    go true t = refl
    go false t =
        let z : bit (test p) ≡ 0 = ap bit t in
        absurd (omega (arith, tally_join test s (p + 1) e (omega arith) (omega arith), tally_next test s p lo, tally_most test s p, tally_most test (p + 1) e))

pub returns-then-b-a : goal.returns-then-b-a
returns-then-b-a g c t = record { found = λ i lo hi k. absurd (omega (arith, c.if-b-a.true)) }

pub returns-then-e-j : goal.returns-then-e-j
returns-then-e-j g c t = absurd (false≢true t)

pub returns-then-other_rows : goal.returns-then-other_rows
returns-then-other_rows g c t = absurd (false≢true t)

pub nonzero_between-requires : goal.nonzero_between-requires
nonzero_between-requires g c = omega (arith, c.requires.covered_input.weighed', c.requires.values_lent, c.if-e-j.false)

pub returns : goal.returns
returns g c t = let a = c.args in
    let j = c.first_from-j.result in
    let all = sym c.nonzero_between.ensures ∙ eqb-true c.nonzero_between.result (a.b - a.a) t in
    covered_order a.rows.now (g.T.StoredValue.kept a.values.now) a.a a.b a.s a.e j c.first_from-j.ensures.from
    (omega (arith, c.if-e-j.false)) (sym c.other_rows.ensures ∙ c.if-other_rows.false)
    (all_pass (g.T.StoredValue.kept a.values.now) j (j + (a.b - a.a)) (all ∙ omega arith))
