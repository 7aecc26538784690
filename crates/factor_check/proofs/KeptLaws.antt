-- The kept entries of a column whose rows ascend that pass a test: the values from the first place on whose row is the column's or more decide.
-- Assumes nothing.
use Prim.Native.Nat.{ℕ, ◌≤◌}
use native.Mathlib.Nat.{lt_of_not-le, le_of_suc-le-suc}
use native.Mathlib.Omega.{arith}
use mathlib.Core.Path.{◌≡◌, sym, ◌∙◌}
use mathlib.Core.Bool.{Bool, true, ◌&&◌, true≢false}
use mathlib.Core.List.{List}
use lib.Dec.{leb}
use borrow.Author.Tests.{le-leb}
use Rattle.lists.specs.Test.{any_in, any_in-hit, any_in_found, same_truth, and_left, and_right, and_both}
use Rattle.columns.specs.Columns.{row}
use Rattle.columns.specs.Kept.{kept}
use Rattle.columns.specs.Factor.{Column, FirstFrom}
use Rattle.columns.proofs.Diagonal.{first_from_from, first_from_dropped}

-- what passes the test is not 0
module _ (nz test : ℕ → Bool) (not_zero_lem : (p : ℕ) → test p ≡ true → nz p ≡ true)
    {c : ℕ} {rows : List ℕ} {count s e p : ℕ} (C : Column rows count s e) (F : FirstFrom c rows s e p) where
  -- a kept entry stands from the first place on
  from : (k : ℕ) → s ≤ k → kept rows nz c k ≡ true → p ≤ k
  from k lo t = le_of_suc-le-suc (lt_of_not-le (λ l. true≢false (sym t ∙ first_from_dropped C F nz k lo l)))

  -- so the values from there on decide
  pub kept_from : any_in test p e ≡ any_in (λ k. kept rows nz c k && test k) s e
  kept_from =
      same_truth (any_in test p e) (any_in (λ k. kept rows nz c k && test k) s e)
      (λ t.
      let f = any_in_found test p e t in
      let k = f.0 in
      let there = le-leb _ _ (first_from_from C F k f.1 f.2) in
      any_in-hit (λ k. kept rows nz c k && test k) s e k (omega (arith, F.from, f.1)) f.2
      (and_both _ _ (and_both (leb c (row rows k)) (nz k) there (not_zero_lem k f.3)) f.3))
      (λ t.
      let f = any_in_found (λ k. kept rows nz c k && test k) s e t in
      let k = f.0 in
      any_in-hit test p e k (from k f.1 (and_left (kept rows nz c k) _ f.3)) f.2 (and_right (kept rows nz c k) (test k) f.3))
