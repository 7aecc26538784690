-- A file that was written is read back as the set that it was written of.
-- Assumes nothing.
use Prim.Native.Nat.{ℕ, zero, suc, ◌+◌, ◌-◌, ◌≤◌, ◌<◌, min, max}
use native.Mathlib.Omega.{arith}
use Rattle.std.specs.Prelude.{◌≡◌, refl, Bool, true, false, ◌||◌, List, eqb, get_or}
use Rattle.std.proofs.Common.{sym, ap, ap₂, ◌∙◌, true≢false}
use Rattle.std.proofs.Math.Bool.{◌&&◌}
use Rattle.std.proofs.Math.ListN.{length}
use borrow.Author.Tests.{ltb-false, lt-ltb, eq-eqb, ne_eqb}
use Rattle.lists.specs.Test.{any_none, any_next}
use Rattle.lists.specs.Sum.{bit, sum_to, sum_to_eq, sum_to_one, sum_to_zero}
use Rattle.lists.specs.Select.{tally_sum}
use Rattle.lists.specs.Cells.{cell_count}
use Rattle.refusal.specs.Bounds.{max_dimension, max_entries}
use Rattle.refusal.specs.Steps.{Passed}
use Rattle.refusal.proofs.Steps.{passed_clear}
use Rattle.pairs.specs.Pair.{pair_total, ordered}
use Rattle.pairs.proofs.Pair.{ordered_is}
use Rattle.pairs.specs.ColumnOrder.{by_column, column_place, set_size}
use Rattle.pairs.proofs.ColumnOrder.{column_place_below, set_size_sum, set_size_cong, set_size_le}
use Rattle.closed_set.specs.Requests.{requested, Requests}
use Rattle.closed_set.proofs.Requests.{requested_at, requested_ranged}
use Rattle.matrix_market.specs.File.{file_steps, file_answer, file_rows, file_columns}
use Rattle.matrix_market.proofs.FileRead.{file_passes, file_answer_lem, file_requested}
use Rattle.requests_writer.specs.Marked.{requested_to}
use Rattle.requests_writer.proofs.Marked.{place_ordered}
use Rattle.requests_writer.specs.Writer.{write_checks, requests_file}
use Rattle.requests_writer.proofs.Writer.{write_checks_requests, write_checks_below, write_checks_small}

-- ---- requests have at most as many pairs as there are of them
sum_to_both : (f g h : ℕ → ℕ) (k : ℕ) → ((i : ℕ) → i < k → h i ≤ f i + g i) → sum_to h k ≤ sum_to f k + sum_to g k
unfolding sum_to
sum_to_both f g h zero e = omega arith
sum_to_both f g h (suc k) e = omega (arith, sum_to_both f g h k (λ i l. e i (omega arith)), e k (omega arith))

bit-either : (a b : Bool) → bit (a || b) ≤ bit a + bit b
bit-either true b = omega arith
bit-either false b = omega arith

size_sum : (n : ℕ) (S : ℕ → ℕ → Bool) → set_size n S ≡ sum_to (λ c. sum_to (λ i. bit (S (c + i) c)) (n - c)) n
unfolding cell_count
size_sum n S = sum_to_eq _ _ n (λ c l. tally_sum (by_column S c) c n)

size_either : (n : ℕ) (A B : ℕ → ℕ → Bool) → set_size n (λ r c. A r c || B r c) ≤ set_size n A + set_size n B
size_either n A B =
    rw (size_sum n A, size_sum n B, size_sum n (λ r c. A r c || B r c))
    (sum_to_both _ _ _ n (λ c _. sum_to_both _ _ _ (n - c) (λ i _. bit-either (A (c + i) c) (B (c + i) c))))

size_ordered : (n a b : ℕ) → b ≤ a → a < n → set_size n (ordered a b) ≡ 1
size_ordered n a b low high =
    let q = column_place n a b in
    let f : ℕ → ℕ = λ p. bit (eqb q p) in
    set_size_sum n (ordered a b) f (λ r c h l. ap bit (place_ordered n a b r c low high h l))
    ∙ sum_to_one (λ _. 0) f (pair_total n) q (column_place_below n a b low high) refl (ap bit (eq-eqb q q refl)) (λ i _ d. ap bit (ne_eqb q i (λ e. d (sym e))))
    ∙ ap (λ (k : ℕ). k + 1) (sum_to_zero (λ _. 0) (pair_total n) (λ _ _. refl))

module _ (n : ℕ) (rows columns : List ℕ) (Q : Requests n rows columns) (below : (k : ℕ) → k < length rows → get_or columns k 0 ≤ get_or rows k 0) where
  few_to : (k : ℕ) → k ≤ length rows → set_size n (requested_to rows columns k) ≤ k
  few_to zero h =
      omega (arith, set_size_le n (requested_to rows columns 0) (λ _ _. false) (λ r c _ _ e. sym (any_none _) ∙ e), none)
    where
      none : set_size n (λ _ _. false) ≡ 0
      none = size_sum n (λ _ _. false) ∙ sum_to_zero _ n (λ c _. sum_to_zero _ (n - c) (λ _ _. refl))
  few_to (suc k) h =
      let l : k < length rows = h in
      let step = ordered (get_or rows k 0) (get_or columns k 0) in
      let e : suc k ≡ k + 1 = omega arith in
      omega (
        arith,
        ap (λ (j : ℕ). set_size n (requested_to rows columns j)) e,
        set_size_cong n (requested_to rows columns (k + 1)) (λ r c. requested_to rows columns k r c || step r c) (λ r c _ _. any_next _ k),
        size_either n (requested_to rows columns k) step,
        size_ordered n (get_or rows k 0) (get_or columns k 0) (below k l) (Q.rows_inside k l),
        few_to k (omega arith),
      )

  pub requested_few : set_size n (requested rows columns) ≤ length rows
  unfolding requested
  requested_few = few_to (length rows) (omega arith)

  -- and at least one if there is one
  pub requested_some : 0 < length rows → 0 < set_size n (requested rows columns)
  requested_some l =
      let a = get_or rows 0 0 in
      let b = get_or columns 0 0 in
      let low = below 0 l in
      let m : max a b ≡ a = omega arith in
      let w : min a b ≡ b = omega arith in
      omega (
        arith,
        size_ordered n a b low (Q.rows_inside 0 l),
        set_size_le n (ordered a b) (requested rows columns)
            (λ r c _ _ e. let o = ordered_is a b r c e in ap₂ (requested rows columns) o.0 o.1 ∙ requested_at rows columns 0 l),
      )

-- ---- what the reader gives of a file that was written
module _ (n : ℕ) (rows columns : List ℕ) (p : Passed (write_checks n rows columns)) where
  abbrev set : ℕ → ℕ → Bool
  set = requested rows columns

  sound : Requests n rows columns
  sound = write_checks_requests n rows columns p

  below : (k : ℕ) → k < length rows → get_or columns k 0 ≤ get_or rows k 0
  below = write_checks_below n rows columns p

  small : n ≤ max_dimension
  small = write_checks_small n rows columns p

  few : set_size n set ≤ max_entries
  unfolding write_checks
  few =
      let h : length rows ≤ max_entries = ltb-false _ _ (passed_clear (write_checks n rows columns) p).1.0 in
      omega (arith, requested_few n rows columns sound below)

  -- 24: requests, unless there are no columns
  filled : 0 < n → 0 < set_size n set
  unfolding write_checks
  filled h = requested_some n rows columns sound below (go (length rows) refl)
    where
      go : (k : ℕ) → length rows ≡ k → 0 < length rows
      go zero e =
          absurd (true≢false (sym (ap₂ ◌&&◌ (eq-eqb (length rows) 0 e) (lt-ltb 0 n h)) ∙ (passed_clear (write_checks n rows columns) p).1.1.1.1.1.1.0))
      go (suc k) e = omega arith

  -- it is accepted
  pub written_passes : (r c : ℕ) → set_size n set ≤ r → set_size n set ≤ c → Passed (file_steps (requests_file n rows columns) r c)
  written_passes r c a b = file_passes n set filled small few r c a b

  -- its answer is the dimension and the number of pairs
  pub written_answer : file_answer (requests_file n rows columns) ≡ (n, set_size n set)
  written_answer = file_answer_lem n set filled

  -- and its lists are requests of the same set
  pub written_requested : (r c : ℕ) → requested (file_rows (requests_file n rows columns)) (file_columns (requests_file n rows columns)) r c ≡ requested rows columns r c
  written_requested r c = file_requested n set filled (requested_ranged rows columns n sound) r c
