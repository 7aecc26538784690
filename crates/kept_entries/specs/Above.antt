-- Entries above the diagonal, and how many entries are kept where there is none.
-- Assumes nothing.
use Rattle.std.specs.Prelude.{ℕ, zero, suc, ◌+◌, ◌≤◌, ◌<◌, Bool, false, List, ◌≡◌, ltb, length}
use Rattle.std.proofs.Common.{arith, add-one, sym, ap, subst, ◌∙◌, ltb-false, le-leb}
use Rattle.lists.specs.Test.{any, any_in, any_below, any_in_below}
use Rattle.lists.specs.Select.{tally, select_cong, tally_join, tally_none}
use Rattle.columns.specs.Columns.{start, row}
use Rattle.columns.specs.Kept.{kept, kept_count, factor_pairs}
use Rattle.columns.proofs.Kept.{factor_pairs_none, factor_pairs_next}
use Rattle.columns.specs.Factor.{Starts}

-- the entry at p is above the diagonal of column c
abbrev pub above_diagonal : List ℕ → ℕ → ℕ → Bool
above_diagonal rows c p = ltb (row rows p) c

-- column c has an entry above its diagonal
abbrev pub has_above : List ℕ → List ℕ → ℕ → Bool
has_above starts rows c = any_in (above_diagonal rows c) (start starts c) (start starts (c + 1))

module _ {n : ℕ} {starts rows : List ℕ} (S : Starts n starts rows) (none : any (has_above starts rows) n ≡ false) (nz : ℕ → Bool) where
  -- a column without one keeps its entries that are not 0
  kept_count_all : (c : ℕ) → c < n → kept_count starts rows nz c ≡ tally nz (start starts c) (start starts (c + 1))
  kept_count_all c h =
      let e = any_below (has_above starts rows) n c none h in
      ap length (select_cong (kept rows nz c) nz _ _ (λ k lo hi. rw (le-leb _ _ (ltb-false _ _ (any_in_below (above_diagonal rows c) _ _ k e lo hi)))))

  first_columns : (m : ℕ) → m ≤ n → factor_pairs starts rows nz m ≡ tally nz 0 (start starts m)
  first_columns zero h = factor_pairs_none starts rows nz ∙ sym (rw S.zero (tally_none nz 0))
  first_columns (suc m) h =
      subst (λ (k : ℕ). factor_pairs starts rows nz k ≡ tally nz 0 (start starts k)) (add-one m)
      (omega (
        arith,
        factor_pairs_next starts rows nz m,
        first_columns m (omega arith),
        kept_count_all m h,
        tally_join nz 0 (start starts m) (start starts (m + 1)) (omega arith) (S.rising m h),
      ))

  -- where no column has one, the kept entries are those that are not 0
  pub factor_pairs_all : factor_pairs starts rows nz n ≡ tally nz 0 (start starts n)
  factor_pairs_all = first_columns n (omega arith)
