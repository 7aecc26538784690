-- Storing the requests that a file's entries stand for.
-- Assumes nothing.
use Prim.Native.Nat.{ℕ, zero, suc, ◌+◌, ◌≤◌, ◌<◌}
use native.Mathlib.Omega.{arith}
use mathlib.Core.Path.{◌≡◌, refl, sym, ap, subst, ◌∙◌}
use mathlib.Core.Bool.{Bool, cond}
use mathlib.Core.List.{List, [], ◌∷◌, ◌++◌, map}
use lib.ListN.{length, set, length-set}
use borrow.Author.Tests.{eq-eqb, ne_eqb}
use Rattle.lists.specs.Select.{map_snoc}
use Rattle.lists.specs.Tabulate.{tabulate}
use Rattle.lists.specs.Overwrite.{overwrite, filled, filled_none, filled_more}
use Rattle.matrix_market.specs.File.{diagonal_pair, every_diagonal, request_rows, request_columns, stand_for, request_count}
use Rattle.matrix_market.proofs.File.{stand_entries, stand_diagonals}
use Rattle.requests_reader.specs.EntryLines.{entries_from, pairs_from, StoreEntriesInput, RequestsStored}

-- ---- how many
pub count_none : (n count : ℕ) → count ≡ 0 → request_count n count ≡ n
count_none n count e = ap (λ (b : Bool). cond b n count) (eq-eqb count 0 e)

pub count_some : (n count : ℕ) → (count ≡ 0 → ⊥) → request_count n count ≡ count
count_some n count e = ap (λ (b : Bool). cond b n count) (ne_eqb count 0 e)

-- ---- the diagonal pairs
-- the first k of n are stored
pub record DiagonalLoop (n k : ℕ) (rows₀ columns₀ rows columns : List ℕ) : Type 0 where
  pub rows_are : rows ≡ filled (λ i. i) k rows₀
  pub columns_are : columns ≡ filled (λ i. i) k columns₀
  pub rows_long : length rows ≡ length rows₀
  pub columns_long : length columns ≡ length columns₀

tabulate-map : {A B : Type 0} (g : A → B) (f : ℕ → A) (n : ℕ) → map g (tabulate f n) ≡ tabulate (λ i. g (f i)) n
unfolding tabulate
tabulate-map g f zero = refl
tabulate-map {A} {B} g f (suc n) = map_snoc g (tabulate f n) (f n) ∙ ap (λ (l : List B). l ++ (g (f n) ∷ [])) (tabulate-map g f n)

module _ (n : ℕ) (rows₀ columns₀ : List ℕ) where
  pub diagonal_start : DiagonalLoop n 0 rows₀ columns₀ rows₀ columns₀
  diagonal_start =
      record {
        rows_are = filled_none (λ i. i) rows₀;
        columns_are = filled_none (λ i. i) columns₀;
        rows_long = refl;
        columns_long = refl;
      }

  module _ (k : ℕ) (rows columns : List ℕ) (D : DiagonalLoop n k rows₀ columns₀ rows columns) where
    pub diagonal_more : k < n → n ≤ length rows₀ → n ≤ length columns₀ → DiagonalLoop n (k + 1) rows₀ columns₀ (set rows k k) (set columns k k)
    diagonal_more l a b =
        record {
          rows_are = ap (λ (s : List ℕ). set s k k) D.rows_are ∙ filled_more (λ i. i) rows₀ k (omega arith);
          columns_are = ap (λ (s : List ℕ). set s k k) D.columns_are ∙ filled_more (λ i. i) columns₀ k (omega arith);
          rows_long = length-set rows k k ∙ D.rows_long;
          columns_long = length-set columns k k ∙ D.columns_long;
        }

    pub diagonal_end : n ≤ k → k ≤ n → RequestsStored (every_diagonal n) rows₀ columns₀ rows columns
    unfolding filled
    diagonal_end h m =
        let e : k ≡ n = omega arith in
        let r : request_rows (every_diagonal n) ≡ tabulate (λ i. i) n = tabulate-map (λ (p : ℕ × ℕ). p.0) diagonal_pair n in
        let c : request_columns (every_diagonal n) ≡ tabulate (λ i. i) n = tabulate-map (λ (p : ℕ × ℕ). p.1) diagonal_pair n in
        record {
          rows_are = D.rows_are ∙ ap (λ (i : ℕ). overwrite (tabulate (λ j. j) i) rows₀) e ∙ ap (λ (l : List ℕ). overwrite l rows₀) (sym r);
          columns_are = D.columns_are ∙ ap (λ (i : ℕ). overwrite (tabulate (λ j. j) i) columns₀) e ∙ ap (λ (l : List ℕ). overwrite l columns₀) (sym c);
          rows_long = D.rows_long;
          columns_long = D.columns_long;
        }

-- ---- what the entries from p on stand for
module _ (n : ℕ) (text : List ℕ) (p count : ℕ) (rows₀ columns₀ rows columns : List ℕ) (I : StoreEntriesInput text p count) where
  abbrev Stored : List (ℕ × ℕ) → Type 0
  Stored requests = RequestsStored requests rows₀ columns₀ rows columns

  pub stored_diagonals : count ≡ 0 → Stored (every_diagonal n) → Stored (stand_for n (entries_from text p))
  stored_diagonals e = subst Stored (sym (stand_diagonals n (entries_from text p) (I.counted ∙ e)))

  pub stored_entries : (count ≡ 0 → ⊥) → Stored (pairs_from text p) → Stored (stand_for n (entries_from text p))
  stored_entries h = subst Stored (sym (stand_entries n (entries_from text p) (omega (arith, h, I.counted))))
