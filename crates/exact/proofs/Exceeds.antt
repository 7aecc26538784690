-- Laws of specs/Exceeds.antt.
use Rattle.std.specs.Prelude.{ℕ, ◌≤◌, ◌<◌, ◌≡◌, refl, Bool, true, ◌&&◌, ◌||◌, ◌↔◌, ◌⊎◌, List, ℤ, pos}
use Rattle.std.proofs.Common.{le_of_lt, lt_of_le_of_lt, eq-or-lt_of_le, ap, ap₂, ◌∙◌, inl, inr}
use Rattle.std.proofs.Math.Path.{sym, subst}
use Rattle.std.proofs.Math.Bool.{false}
use Rattle.lists.specs.Test.{any_in, any_below, any_all, any_in_below, any_in_all, or_neither_left, or_neither_right}
use Rattle.takahashi.specs.Entries.{Entry, Each}
use Rattle.takahashi.proofs.Entries.{each_of_rows}
use Rattle.takahashi.specs.Recurrence.{at, RecurrenceClosed}
use Rattle.takahashi.proofs.Recurrence.{at_sym, at_lower}
use Rattle.exact.specs.Multiple.{Small}
use Rattle.exact.specs.Exact.{Products, RunningSums}
use Rattle.exact.specs.ExactCase.{WithinBound}
use Rattle.exact.specs.Checked.{beyond, sum_exceeds}
use Rattle.exact.proofs.Checked.{small_within, within_small, sum_small, small_sum, sum_exceeds_each}
use Rattle.exact.specs.Exceeds.{entry_exceeds, set_exceeds, Z}

-- ---- a set given as a test, and as pairs
module _ (n : ℕ) (desc : ℕ → List (Entry ℤ)) (S : ℕ → ℕ → Bool) (In : ℕ → ℕ → Type 0)
    (same : (i j : ℕ) → j ≤ i → i < n → (S i j ≡ true) ↔ In i j) (closed : RecurrenceClosed n desc In) where
  column : (i j : ℕ) → In i j → j < n
  column i j p = lt_of_le_of_lt (closed.inside i j p).0 (closed.inside i j p).1

  -- on the diagonal, the row of the recurrence is the column
  turned : (j : ℕ) → In j j → Each (λ k. at (Z n desc S In same closed) j k ≡ (Z n desc S In same closed) k j) (desc j)
  turned j p = each_of_rows n j (λ k. at (Z n desc S In same closed) j k ≡ (Z n desc S In same closed) k j) (desc j) (λ k jk kn. at_sym (Z n desc S In same closed) j k ∙ at_lower (Z n desc S In same closed) k j (le_of_lt jk)) (closed.rows j j p)

  diagonal_sum : (j : ℕ) → In j j → sum_exceeds (at (Z n desc S In same closed) j) (pos 0) (desc j) ≡ sum_exceeds (λ k. (Z n desc S In same closed) k j) (pos 0) (desc j)
  diagonal_sum j p = sum_exceeds_each (at (Z n desc S In same closed) j) (λ k. (Z n desc S In same closed) k j) (pos 0) (desc j) (turned j p)

  entry_none : set_exceeds n desc (Z n desc S In same closed) S ≡ false → (i j : ℕ) → In i j → entry_exceeds desc (Z n desc S In same closed) i j ≡ false
  unfolding set_exceeds
  entry_none e i j p =
      let g = closed.inside i j p in
      let c = any_below (λ c. any_in (λ r. S r c && entry_exceeds desc (Z n desc S In same closed) r c) c n) n j e (column i j p) in
      let q = any_in_below (λ r. S r j && entry_exceeds desc (Z n desc S In same closed) r j) j n i c g.0 g.1 in
      sym (ap (λ (b : Bool). b && entry_exceeds desc (Z n desc S In same closed) i j) ((same i j g.0 g.1).1 p)) ∙ q

  -- nothing exceeds exactly if the recurrence over the set stays within the bound of the exact case
  pub none_within : set_exceeds n desc (Z n desc S In same closed) S ≡ false → WithinBound n desc In
  none_within e = record {
    entry = λ i j p. within_small ((Z n desc S In same closed) i j) (or_neither_left (beyond ((Z n desc S In same closed) i j)) _ (entry_none e i j p));
    product_below = λ i j p ji. (sums i j p).0;
    sum_below = λ i j p ji. (sums i j p).1;
    product_diagonal = λ j p. (diagonal j p).0;
    sum_diagonal = λ j p. (diagonal j p).1;
  }
    where
      sums : (i j : ℕ) → In i j → Products Small (at (Z n desc S In same closed) i) (desc j) × RunningSums Small (at (Z n desc S In same closed) i) (pos 0) (desc j)
      sums i j p = sum_small (at (Z n desc S In same closed) i) (pos 0) (desc j) (or_neither_right (beyond ((Z n desc S In same closed) i j)) _ (entry_none e i j p))

      diagonal : (j : ℕ) → In j j → Products Small (λ k. (Z n desc S In same closed) k j) (desc j) × RunningSums Small (λ k. (Z n desc S In same closed) k j) (pos 0) (desc j)
      diagonal j p =
          sum_small (λ k. (Z n desc S In same closed) k j) (pos 0) (desc j)
          (sym (diagonal_sum j p) ∙ or_neither_right (beyond ((Z n desc S In same closed) j j)) _ (entry_none e j j p))

  pub within_none : WithinBound n desc In → set_exceeds n desc (Z n desc S In same closed) S ≡ false
  unfolding set_exceeds
  within_none w =
      any_all _ n (λ j jn. any_in_all _ j n (λ i ji hi. none i j ji hi (S i j) refl))
    where
      open_sum : (i j : ℕ) → In i j → j ≤ i → sum_exceeds (at (Z n desc S In same closed) i) (pos 0) (desc j) ≡ false
      open_sum i j p ji = go (eq-or-lt_of_le ji)
        where
          go : (j ≡ i) ⊎ (j < i) → sum_exceeds (at (Z n desc S In same closed) i) (pos 0) (desc j) ≡ false
          go (inr l) = small_sum (at (Z n desc S In same closed) i) (pos 0) (desc j) (w.product_below i j p l) (w.sum_below i j p l)
          go (inl e) = subst (λ (x : ℕ). sum_exceeds (at (Z n desc S In same closed) x) (pos 0) (desc j) ≡ false) e (on (subst (λ (x : ℕ). In x j) (sym e) p))
            where
              on : In j j → sum_exceeds (at (Z n desc S In same closed) j) (pos 0) (desc j) ≡ false
              on q = diagonal_sum j q ∙ small_sum (λ k. (Z n desc S In same closed) k j) (pos 0) (desc j) (w.product_diagonal j q) (w.sum_diagonal j q)

      none : (i j : ℕ) → j ≤ i → i < n → (b : Bool) → S i j ≡ b → (b && entry_exceeds desc (Z n desc S In same closed) i j) ≡ false
      none i j ji hi false e = refl
      none i j ji hi true e =
          let p = (same i j ji hi).0 e in
          ap₂ ◌||◌ (small_within ((Z n desc S In same closed) i j) (w.entry i j p)) (open_sum i j p ji)
