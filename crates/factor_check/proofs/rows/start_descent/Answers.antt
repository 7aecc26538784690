use Rattle.lists.specs.Select.{tally, tally_join, tally_none, tally_next, tally_most}
use Rattle.lists.specs.Sum.{bit}
use Rattle.columns.specs.Columns.{not_above}
use borrow.Author.Tests.{le-leb, lt-leb}
use borrow.Author.Rules.{rules}
use native.Mathlib.Omega.{arith}
use Prim.Native.Nat.{ℕ, ◌≤◌, ◌<◌, ◌+◌}
use mathlib.Core.Bool.{Bool}
use mathlib.Core.Path.{◌≡◌, ap}
use Rattle.factor_check.proofs.rows.start_descent.Goals as goal

module _ (test : ℕ → Bool) where
  -- a count in two parts, with one number between them
  split : (s m e : ℕ) → s ≤ m → m < e → tally test s e ≡ tally test s m + bit (test m) + tally test (m + 1) e
  split s m e h l =
      omega (
        arith,
        tally_join test s m e h (omega arith),
        tally_join test m (m + 1) e (omega arith) (omega arith),
        tally_next test m m (omega arith),
        tally_none test m,
      )

  -- from 1 on, before an end and after it: at 0, and at the last
  at_zero : (s e : ℕ) → s ≡ 0 → tally test 1 e ≡ tally test 1 s + 0 + tally test (s + 1) e
  at_zero s e q = omega (arith, tally_most test 1 s, ap (λ (k : ℕ). tally test (k + 1) e) q)

  at_end : (s e : ℕ) → s ≡ e → tally test 1 e ≡ tally test 1 s + 0 + tally test (s + 1) e
  at_end s e q = omega (arith, tally_most test (s + 1) e, ap (tally test 1) q)

pub returns-then-s-eq0 : goal.returns-then-s-eq0
returns-then-s-eq0 c = let a = c.args in at_zero (not_above a.rows.now) a.s a.e (search rules)

pub returns-then-s-e : goal.returns-then-s-e
returns-then-s-e c = let a = c.args in at_end (not_above a.rows.now) a.s a.e (search rules)

pub returns-then-rows-s : goal.returns-then-rows-s
returns-then-rows-s c = let a = c.args in
    omega (arith, split (not_above a.rows.now) 1 a.s a.e (omega arith) (omega arith), ap bit (le-leb _ _ c.if-rows-s.true))

pub returns : goal.returns
returns c = let a = c.args in
    omega (arith, split (not_above a.rows.now) 1 a.s a.e (omega arith) (omega arith), ap bit (lt-leb _ _ c.if-rows-s.false))
