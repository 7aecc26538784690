-- Laws of specs/Recurrence.antt.
use Rattle.std.specs.Prelude.{◌≡◌, refl, cond, ◌⊎◌, ◌≢◌, List, [], ◌∷◌, ℕ, zero, suc, ◌+◌, ◌-◌, ◌≤◌, ◌<◌, min, max, eqb}
use Rattle.std.proofs.Common.{sym, ◌∙◌, ap, ap₂, subst, inl, inr, eq-or-lt_of_le, add-zero, add-suc, add-sub_of_le, le_of_eq, le_of_lt, lt_trans, ne_of_gt, arith}
use Rattle.std.proofs.Math.Nat.{max_comm, min_comm, max-eq_left, min-eq_right}
use Rattle.takahashi.proofs.Choice.{cond_same, cond_other}
use Rattle.takahashi.proofs.Entries.{each_map, each_of_rows}
use Rattle.takahashi.specs.Entries.{Entry, Each, Rows}
use Rattle.takahashi.specs.Recurrence.{Arithmetic, run, at, Lower, RecurrenceClosed, below, diagonal, column, stage, table, Solves}

-- ---- a table read at either order
pub at_sym : {W : Type 0} (Z : ℕ → ℕ → W) (i k : ℕ) → at Z i k ≡ at Z k i
at_sym Z i k = ap₂ Z (max_comm i k) (min_comm i k)

pub at_lower : {W : Type 0} (Z : ℕ → ℕ → W) (i k : ℕ) → k ≤ i → at Z i k ≡ Z i k
at_lower Z i k h = ap₂ Z (max-eq_left h) (min-eq_right h)

-- ---- a sum needs the row's values at the list's rows alone
pub run_each : (A : Arithmetic) (r s : ℕ → A.Carrier) (S : A.Carrier) (es : List (Entry A.Carrier)) → Each (λ k. r k ≡ s k) es
    → run A r S es ≡ run A s S es
run_each A r s S [] h = refl
run_each A r s S (e ∷ es) h =
    ap (λ (x : A.Carrier). run A r (A.plus S (A.times e.value x)) es) h.0 ∙ run_each A r s (A.plus S (A.times e.value (s e.row))) es h.1

-- ---- closed sets
-- What each entry of a closed set has if those that it is made of have it, all have: by induction down the columns
module _ {W : Type 0} (n : ℕ) (desc : ℕ → List (Entry W)) (P : ℕ → ℕ → Type 0) (closed : RecurrenceClosed n desc P) (G : ℕ → ℕ → Type 0)
    (below : (i j : ℕ) → P i j → j < i → Each (λ k. G (max i k) (min i k)) (desc j) → G i j)
    (diagonal : (j : ℕ) → P j j → Each (λ k. G k j) (desc j) → G j j) where
  step : (i j : ℕ) → P i j → j < i → ((a c : ℕ) → j < c → P a c → G a c) → G i j
  step i j p ji ih =
      below i j p ji
      (each_map n j (λ k. P (max i k) (min i k)) (λ k. G (max i k) (min i k)) (desc j) (λ k jk kn q. ih (max i k) (min i k) (both j i k ji jk) q)
      (closed.rows i j p) (closed.below i j p ji))
    where
      both : (j i k : ℕ) → j < i → j < k → j < min i k
      both j i k p q = omega arith

  -- f bounds how many columns come after j
  upto : (f i j : ℕ) → n ≤ f + j → P i j → G i j
  upto zero i j h p = absurd (none i j h (closed.inside i j p).0 (closed.inside i j p).1)
    where
      none : (i j : ℕ) → n ≤ 0 + j → j ≤ i → i < n → ⊥
      none i j h a b = omega arith
  upto (suc f) i j h p = go (eq-or-lt_of_le (closed.inside i j p).0) (λ a c jc q. upto f a c (less f j c h jc) q)
    where
      less : (f j c : ℕ) → n ≤ suc f + j → j < c → n ≤ f + c
      less f j c h jc = omega arith

      go : (j ≡ i) ⊎ (j < i) → ((a c : ℕ) → j < c → P a c → G a c) → G i j
      go (inr l) ih = step i j p l ih
      go (inl e) ih =
          subst (λ (x : ℕ). G x j) e
          (diagonal j q (each_map n j (λ k. P k j) (λ k. G k j) (desc j) (λ k jk kn r. step k j r jk ih) (closed.rows j j q) (closed.diagonal j q)))
        where
          q : P j j
          q = subst (λ (x : ℕ). P x j) (sym e) p

  pub closed_induction : (i j : ℕ) → P i j → G i j
  closed_induction i j p = upto n i j (more n j) p
    where
      more : (n j : ℕ) → n ≤ n + j
      more n j = omega arith

-- the whole lower triangle is closed
pub lower_closed : {W : Type 0} (n : ℕ) (desc : ℕ → List (Entry W)) → ((j : ℕ) → j < n → Rows n j (desc j)) → RecurrenceClosed n desc (Lower n)
lower_closed n desc rows = record {
  inside = λ i j p. p;
  rows = λ i j p. rows j (column i j p.0 p.1);
  below = λ i j p ji.
      each_of_rows n j (λ k. Lower n (max i k) (min i k)) (desc j) (λ k jk kn. (order i k, fits i k p.1 kn)) (rows j (column i j p.0 p.1));
  diagonal = λ j p. each_of_rows n j (λ k. Lower n k j) (desc j) (λ k jk kn. (le_of_lt jk, kn)) (rows j p.1);
}
  where
    column : (i j : ℕ) → j ≤ i → i < n → j < n
    column i j p q = omega arith

    order : (i k : ℕ) → min i k ≤ max i k
    order i k = omega arith

    fits : (i k : ℕ) → i < n → k < n → max i k < n
    fits i k p q = omega arith

-- ---- the table solves the equations
module _ (A : Arithmetic) (off on : A.Carrier → A.Carrier → A.Carrier) (n : ℕ) (diag : ℕ → A.Carrier) (desc : ℕ → List (Entry A.Carrier))
    (rows : (j : ℕ) → j < n → Rows n j (desc j)) where
  -- the table after m columns
  abbrev after : ℕ → ℕ → ℕ → A.Carrier
  after = stage A off on n diag desc

  -- what it gives below the diagonal of the next
  abbrev under : ℕ → ℕ → ℕ → A.Carrier
  under m = below A off on n diag desc (after m)

  -- and on that diagonal
  abbrev corner : ℕ → ℕ → A.Carrier
  corner m = diagonal A off on n diag desc (after m)

  -- a column is not changed by the next stage
  keeps : (m i c : ℕ) → c < n → n - c ≤ m → suc m ≤ n → after (suc m) i c ≡ after m i c
  keeps m i c cn h mn = cond_other c (n - suc m) (cond (eqb i (n - suc m)) (corner m (n - suc m)) (under m (n - suc m) i)) (after m i c) (apart c m cn h mn)
    where
      apart : (c m : ℕ) → c < n → n - c ≤ m → suc m ≤ n → c ≢ n - suc m
      apart c m cn h mn = omega arith

  -- nor by later ones
  settled : (m t i c : ℕ) → c < n → n - c ≤ m → m + t ≤ n → after (m + t) i c ≡ after m i c
  settled m zero i c cn h mn = ap (λ (x : ℕ). after x i c) (add-zero m)
  settled m (suc t) i c cn h mn =
      ap (λ (x : ℕ). after x i c) (add-suc m t) ∙ keeps (m + t) i c cn (w m t c h) (w₂ m t mn) ∙ settled m t i c cn h (w₃ m t mn)
    where
      w : (m t c : ℕ) → n - c ≤ m → n - c ≤ m + t
      w m t c h = omega arith

      w₂ : (m t : ℕ) → m + suc t ≤ n → suc (m + t) ≤ n
      w₂ m t h = omega arith

      w₃ : (m t : ℕ) → m + suc t ≤ n → m + t ≤ n
      w₃ m t h = omega arith

  final : (m i c : ℕ) → c < n → n - c ≤ m → m ≤ n → after n i c ≡ after m i c
  final m i c cn h mn = ap (λ (x : ℕ). after x i c) (sym (add-sub_of_le mn)) ∙ settled m (n - m) i c cn h (le_of_eq (add-sub_of_le mn))

  -- the table's column j is made of the stage before it
  made : (i j : ℕ) → j < n → after n i j ≡ cond (eqb i j) (corner (n - suc j) j) (under (n - suc j) j i)
  made i j jn =
      let m = n - suc j in
      let c = n - suc m in
      final (suc m) i j jn (w₁ j jn) (w₂ j jn)
      ∙ cond_same j c (cond (eqb i c) (corner m c) (under m c i)) (after m i j) (w₃ j jn)
      ∙ ap (λ (x : ℕ). cond (eqb i x) (corner m x) (under m x i)) (sym (w₃ j jn))
    where
      w₁ : (j : ℕ) → j < n → n - j ≤ suc (n - suc j)
      w₁ j h = omega arith

      w₂ : (j : ℕ) → j < n → suc (n - suc j) ≤ n
      w₂ j h = omega arith

      w₃ : (j : ℕ) → j < n → j ≡ n - suc (n - suc j)
      w₃ j h = omega arith

  -- a later column, as that stage has it, is the table's
  later : (j i k : ℕ) → j < i → i < n → j < k → k < n → at (after (n - suc j)) i k ≡ at (after n) i k
  later j i k ji hi jk hk = sym (final (n - suc j) (max i k) (min i k) (w₁ i k hi) (w₂ j i k ji jk hi) (w₃ j))
    where
      w₁ : (i k : ℕ) → i < n → min i k < n
      w₁ i k h = omega arith

      w₂ : (j i k : ℕ) → j < i → j < k → i < n → n - min i k ≤ n - suc j
      w₂ j i k p q h = omega arith

      w₃ : (j : ℕ) → n - suc j ≤ n
      w₃ j = omega arith

  made_below : (i j : ℕ) → j < i → i < n → after n i j ≡ under (n - suc j) j i
  made_below i j ji hi = made i j (lt_trans ji hi) ∙ cond_other i j (corner (n - suc j) j) (under (n - suc j) j i) (ne_of_gt ji)

  pub table_solves : Solves A off on diag desc (Lower n) (table A off on n diag desc)
  table_solves = record {
    below_is = λ i j p ji.
        made_below i j ji p.1
        ∙ ap (off (diag j))
        (run_each A (λ k. at (after (n - suc j)) i k) (λ k. at (after n) i k) A.zero (desc j)
        (each_of_rows n j (λ k. at (after (n - suc j)) i k ≡ at (after n) i k) (desc j)
        (λ k jk kn. later j i k ji p.1 jk kn) (rows j (lt_trans ji p.1))));
    diagonal_is = λ j p.
        made j j p.1 ∙ cond_same j j (corner (n - suc j) j) (under (n - suc j) j j) refl
        ∙ ap (on (diag j))
        (run_each A (λ k. under (n - suc j) j k) (λ k. after n k j) A.zero (desc j)
        (each_of_rows n j (λ k. under (n - suc j) j k ≡ after n k j) (desc j) (λ k jk kn. sym (made_below k j jk kn)) (rows j p.1)));
  }

-- ---- solutions
module _ (A : Arithmetic) (off on : A.Carrier → A.Carrier → A.Carrier) (diag : ℕ → A.Carrier) (desc : ℕ → List (Entry A.Carrier)) where
  -- what solves the equations on a set solves them on a part of it
  pub solves_part : (P Q : ℕ → ℕ → Type 0) (Z : ℕ → ℕ → A.Carrier) → ((i j : ℕ) → P i j → Q i j) → Solves A off on diag desc Q Z
      → Solves A off on diag desc P Z
  solves_part P Q Z f s = record { below_is = λ i j p ji. s.below_is i j (f i j p) ji; diagonal_is = λ j p. s.diagonal_is j (f j j p) }

  -- on a closed set there is one solution
  pub solves_unique : (n : ℕ) (P : ℕ → ℕ → Type 0) (Z Z' : ℕ → ℕ → A.Carrier) → RecurrenceClosed n desc P
      → Solves A off on diag desc P Z → Solves A off on diag desc P Z' → (i j : ℕ) → P i j → Z i j ≡ Z' i j
  solves_unique n P Z Z' closed s s' =
      closed_induction n desc P closed (λ i j. Z i j ≡ Z' i j)
      (λ i j p ji e.
      s.below_is i j p ji ∙ ap (off (diag j)) (run_each A (λ k. at Z i k) (λ k. at Z' i k) A.zero (desc j) e) ∙ sym (s'.below_is i j p ji))
      (λ j p e. s.diagonal_is j p ∙ ap (on (diag j)) (run_each A (λ k. Z k j) (λ k. Z' k j) A.zero (desc j) e) ∙ sym (s'.diagonal_is j p))
