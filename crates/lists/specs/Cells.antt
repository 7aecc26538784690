-- The members of a set of cells (o, i), outer index by outer index, the inner indices of each ascending from lo o to below hi o.
-- Assumes nothing.
use Prim.Native.Nat.{ℕ, zero, suc, ◌+◌, ◌≤◌, ◌<◌}
use Rattle.std.proofs.Common.{arith, ◌∙◌}
use Rattle.std.proofs.Math.Numerals.{add-one}
use Rattle.std.specs.Prelude.{◌≡◌, Bool}
use Rattle.std.proofs.Math.Path.{refl, ap, ap₂}
use mathlib.Core.List.{List, [], ◌++◌, map}
use Rattle.std.proofs.Math.ListN.{length, length-append}
use Rattle.std.proofs.lemmas.List.{length-map}
use Rattle.lists.specs.Sum.{sum_to, sum_to_eq, sum_to_mono, sum_to_next}
use Rattle.lists.specs.Select.{select, select_cong, tally}

module _ (S : ℕ → ℕ → Bool) (lo hi : ℕ → ℕ) where
  -- f of each member with an outer index below m, in order
  unfoldable pub cells : {A : Type 0} → (ℕ → ℕ → A) → ℕ → List A
  cells f zero = []
  cells f (suc o) = cells f o ++ map (f o) (select (S o) (lo o) (hi o))

  -- how many members have an outer index below m
  unfoldable pub cell_count : ℕ → ℕ
  cell_count m = sum_to (λ o. tally (S o) (lo o) (hi o)) m

  pub cells_none : {A : Type 0} (f : ℕ → ℕ → A) → cells f 0 ≡ []
  unfolding cells
  cells_none f = refl

  pub cells_next : {A : Type 0} (f : ℕ → ℕ → A) (o : ℕ) → cells f (o + 1) ≡ cells f o ++ map (f o) (select (S o) (lo o) (hi o))
  unfolding cells
  cells_next f o = rw add-one

  pub cell_count_next : (o : ℕ) → cell_count (o + 1) ≡ cell_count o + tally (S o) (lo o) (hi o)
  unfolding cell_count
  cell_count_next o = sum_to_next _ o

  pub cell_count_mono : (m e : ℕ) → m ≤ e → cell_count m ≤ cell_count e
  unfolding cell_count
  cell_count_mono m e h = sum_to_mono _ m e h

  -- the list is as long as the count says
  pub cells-length : {A : Type 0} (f : ℕ → ℕ → A) (m : ℕ) → length (cells f m) ≡ cell_count m
  unfolding cells cell_count sum_to
  cells-length f zero = refl
  cells-length f (suc o) = length-append (cells f o) _ ∙ ap₂ ◌+◌ (cells-length f o) (length-map (select (S o) (lo o) (hi o)) (f o))

-- sets that agree have the same cells
module _ (S R : ℕ → ℕ → Bool) (lo hi : ℕ → ℕ) where
  pub cells_cong : {A : Type 0} (f : ℕ → ℕ → A) (m : ℕ) → ((o i : ℕ) → o < m → lo o ≤ i → i < hi o → S o i ≡ R o i) → cells S lo hi f m ≡ cells R lo hi f m
  unfolding cells
  cells_cong f zero h = refl
  cells_cong f (suc o) h =
      ap₂ (λ x y. x ++ map (f o) y) (cells_cong f o (λ k i l. h k i (omega arith))) (select_cong (S o) (R o) (lo o) (hi o) (λ i. h o i (omega arith)))

  pub cell_count_cong : (m : ℕ) → ((o i : ℕ) → o < m → lo o ≤ i → i < hi o → S o i ≡ R o i) → cell_count S lo hi m ≡ cell_count R lo hi m
  unfolding cell_count
  cell_count_cong m h = sum_to_eq _ _ m (λ o l. ap length (select_cong (S o) (R o) (lo o) (hi o) (λ i. h o i l)))
