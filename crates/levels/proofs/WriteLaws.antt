-- A chain written back from its end: what is written so far, one pair more, and the whole.
-- Assumes nothing.
use Prim.Native.Nat.{ℕ, zero, suc, ◌+◌, ◌-◌, ◌≤◌, ◌<◌}
use native.Mathlib.Omega.{arith}
use native.Mathlib.Nat.{add-zero}
use Rattle.std.proofs.Math.Numerals.{add-one}
use mathlib.Core.Path.{◌≡◌, refl, sym, ap, ap₂, subst, ◌∙◌}
use mathlib.Core.List.{List, [], ◌∷◌, ◌++◌, map, append-nil}
use lib.ListN.{length, set, length-set, length-append}
use lib.Seq.{drop-set-lt}
use Rattle.lists.specs.Overwrite.{overwrite, splice, splice_none, splice_more, splice_before, splice_first}
use Rattle.levels.specs.Back.{back_row, back_column, levels_back, levels_back_none, levels_back_next, levels_back-length}
use Rattle.levels.specs.Written.{rows_of, columns_of}

-- a place that is written anew may have been written before
pub overwrite_set : {A : Type 0} (new old : List A) (i : ℕ) (x : A) → i < length new → overwrite new (set old i x) ≡ overwrite new old
unfolding overwrite
overwrite_set new old i x h = ap (λ (l : List _). new ++ l) (drop-set-lt (length new) old i x h)

set_again : (old : List ℕ) (k x : ℕ) → set (set old k x) k x ≡ set old k x
set_again [] zero x = refl
set_again [] (suc k) x = refl
set_again (y ∷ old) zero x = refl
set_again (y ∷ old) (suc k) x = ap (λ (l : List ℕ). y ∷ l) (set_again old k x)

pub map_long : (f : ℕ × ℕ → ℕ) (l : List (ℕ × ℕ)) → length (map f l) ≡ length l
map_long f [] = refl
map_long f (p ∷ l) = ap suc (map_long f l)

module _ (desc : ℕ → List ℕ) (W : ℕ → ℕ → ℕ) where
  -- back to (r, c), which is the pair at place k; those behind it are written
  pub record Writing (whole : List (ℕ × ℕ)) (n r c k : ℕ) (rows₀ columns₀ rows columns : List ℕ) : Type 0 where
    pub tail : List (ℕ × ℕ)
    pub back : levels_back desc W k r c ++ tail ≡ whole
    pub rows_written : rows ≡ splice k (r ∷ rows_of tail) rows₀
    pub columns_written : columns ≡ splice k (c ∷ columns_of tail) columns₀
    pub rows_room : length whole ≤ length rows₀
    pub columns_room : length whole ≤ length columns₀
    pub ordered : c ≤ r
    pub inside : r < n

  pub whole_length : {whole : List (ℕ × ℕ)} {n r c k : ℕ} {rows₀ columns₀ rows columns : List ℕ} → Writing whole n r c k rows₀ columns₀ rows columns → k < length whole
  whole_length {whole} {n} {r} {c} {k} T =
      omega (arith, ap length T.back, length-append (levels_back desc W k r c) T.tail, levels_back-length desc W k r c)

  -- the last pair, over lists in which it is written
  pub writing_last : (n r c k : ℕ) (rows columns : List ℕ) → c ≤ r → r < n → k < length rows → k < length columns
      → Writing (levels_back desc W k r c) n r c k (set rows k r) (set columns k c) (set rows k r) (set columns k c)
  writing_last n r c k rows columns h l a b = record {
    tail = [];
    back = append-nil _;
    rows_written = sym (again rows r a);
    columns_written = sym (again columns c b);
    rows_room = simp length-set (omega (arith, levels_back-length desc W k r c));
    columns_room = simp length-set (omega (arith, levels_back-length desc W k r c));
    ordered = h;
    inside = l;
  }
    where
      again : (old : List ℕ) (x : ℕ) → k < length old → splice k (x ∷ []) (set old k x) ≡ set old k x
      again old x m =
          sym (splice_more k [] (set old k x) x (simp length-set (omega arith)))
          ∙ ap₂ (λ (l : List ℕ) (i : ℕ). set l i x) (splice_none k (set old k x)) (add-zero k)
          ∙ set_again old k x

  -- one pair further back
  pub writing_next : {whole : List (ℕ × ℕ)} {n r c k : ℕ} {rows₀ columns₀ rows columns : List ℕ} → Writing whole n r c (suc k) rows₀ columns₀ rows columns
      → (a b : ℕ) → a ≡ back_row desc W (suc k) r c → b ≡ back_column desc W (suc k) r c → b ≤ a → a < n
      → Writing whole n a b k rows₀ columns₀ (set rows k a) (set columns k b)
  writing_next {whole} {n} {r} {c} {k} {rows₀} {columns₀} T a b p q h l = record {
    tail = (r, c) ∷ T.tail;
    back = ap₂ (λ (x y : ℕ). levels_back desc W k x y ++ (r, c) ∷ T.tail) p q ∙ sym (levels_back_next desc W k r c T.tail) ∙ T.back;
    rows_written = ap (λ (x : List ℕ). set x k a) T.rows_written ∙ splice_before k (r ∷ rows_of T.tail) rows₀ a (omega (arith, whole_length T, T.rows_room));
    columns_written = ap (λ (x : List ℕ). set x k b) T.columns_written ∙ splice_before k (c ∷ columns_of T.tail) columns₀ b (omega (arith, whole_length T, T.columns_room));
    rows_room = T.rows_room;
    columns_room = T.columns_room;
    ordered = h;
    inside = l;
  }

  -- the same, with its place in other words
  pub writing_step : {whole : List (ℕ × ℕ)} {n r c m : ℕ} {rows₀ columns₀ rows columns : List ℕ} → Writing whole n r c m rows₀ columns₀ rows columns → 0 < m
      → (a b : ℕ) → a ≡ back_row desc W (m - 1 + 1) r c → b ≡ back_column desc W (m - 1 + 1) r c → b ≤ a → a < n
      → Writing whole n a b (m - 1) rows₀ columns₀ (set rows (m - 1) a) (set columns (m - 1) b)
  writing_step {whole} {n} {r} {c} {m} {rows₀} {columns₀} {rows} {columns} T positive a b p q h l =
      let e : m ≡ suc (m - 1) = omega arith in
      writing_next (subst (λ (k : ℕ). Writing whole n r c k rows₀ columns₀ rows columns) e T) a b
      (p ∙ ap (λ (k : ℕ). back_row desc W k r c) (add-one (m - 1)))
      (q ∙ ap (λ (k : ℕ). back_column desc W k r c) (add-one (m - 1)))
      h l

  -- all of them
  pub writing_all : {whole : List (ℕ × ℕ)} {n r c : ℕ} {rows₀ columns₀ rows columns : List ℕ} → Writing whole n r c 0 rows₀ columns₀ rows columns
      → (rows ≡ overwrite (rows_of whole) rows₀) × (columns ≡ overwrite (columns_of whole) columns₀)
  writing_all {whole} {n} {r} {c} {rows₀} {columns₀} T =
      let e : (r, c) ∷ T.tail ≡ whole = sym (levels_back_none desc W r c T.tail) ∙ T.back in (
        T.rows_written ∙ splice_first _ rows₀ ∙ ap (λ (l : List (ℕ × ℕ)). overwrite (rows_of l) rows₀) e,
        T.columns_written ∙ splice_first _ columns₀ ∙ ap (λ (l : List (ℕ × ℕ)). overwrite (columns_of l) columns₀) e,
      )

  pub writing_end : {whole : List (ℕ × ℕ)} {n r c m : ℕ} {rows₀ columns₀ rows columns : List ℕ} → m ≡ 0 → Writing whole n r c m rows₀ columns₀ rows columns
      → (rows ≡ overwrite (rows_of whole) rows₀) × (columns ≡ overwrite (columns_of whole) columns₀)
  writing_end {whole} {n} {r} {c} {m} {rows₀} {columns₀} {rows} {columns} e T = writing_all (subst (λ (k : ℕ). Writing whole n r c k rows₀ columns₀ rows columns) e T)
