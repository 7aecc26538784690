-- Laws of specs/ClosedPattern.antt.
use Rattle.std.specs.Prelude.{◌≡◌, List, [], ◌∷◌, ℕ, zero, suc, ◌+◌, ◌-◌, ◌≤◌, ◌<◌, length, get_or}
use Rattle.std.proofs.Common.{sym, ◌∙◌, ap, subst, zero-le, suc-le-suc, le_refl, le_of_eq, le_of_lt, le_trans, lt_trans, lt_of_le_of_lt, le_of_suc-le-suc, add-zero, add-sub_of_le, add-one, arith}
use Rattle.refusal.specs.Bounds.{max_dimension}
use Rattle.takahashi.specs.Recurrence.{Entry, Rows}
use Rattle.scatter.specs.Scatter.{row_at, ClosedPattern, Laid}
use Rattle.scatter.specs.ClosedPattern.{cell}

module _ {W : Type 0} (none : W) where
  rows_of : (n j : ℕ) (ds : List (Entry W)) → ((p : ℕ) → p < length ds → (j < row_at none ds p) × (row_at none ds p < n)) → Rows n j ds
  rows_of n j [] h = tt
  rows_of n j (e ∷ ds) h = ((h 0 (w (length ds))).0, (h 0 (w (length ds))).1, rows_of n j ds (λ p l. h (suc p) (suc-le-suc l)))
    where
      w : (m : ℕ) → 0 < suc m
      w m = omega arith

  module _ (n : ℕ) (desc : ℕ → List (Entry W)) (P : ClosedPattern none n desc) where
    pub pattern_rows : (j : ℕ) → j < n → Rows n j (desc j)
    pattern_rows j jn = rows_of n j (desc j) (λ p h. (P.under j p jn h, P.fits j p jn h))

    climbs : (j p : ℕ) → j < n → p < length (desc j) → p < row_at none (desc j) p
    climbs j zero jn h = lt_of_le_of_lt zero-le (P.under j 0 jn h)
    climbs j (suc p) jn h = lt_of_le_of_lt (climbs j p jn (lt_trans (le_refl (suc p)) h)) (P.up j p (suc p) jn (le_refl (suc p)) h)

    pub degree : (j : ℕ) → j < n → length (desc j) < n
    degree j jn = go (length (desc j)) (λ p h. lt_of_le_of_lt (climbs j p jn h) (P.fits j p jn h))
      where
        go : (m : ℕ) → ((p : ℕ) → p < m → suc p < n) → m < n
        go zero f = lt_of_le_of_lt zero-le jn
        go (suc m) f = f m (le_refl (suc m))

    pub degree_small : (j : ℕ) → j < n → length (desc j) ≤ max_dimension
    degree_small j jn = le_trans (le_of_lt (degree j jn)) P.small

    pub cell_fits : (c x : ℕ) → c < n → x < suc (length (desc c)) → (cell none) desc c x < n
    cell_fits c zero cn h = cn
    cell_fits c (suc p) cn h = P.fits c p cn (le_of_suc-le-suc h)

    pub cell_up : (c x y : ℕ) → c < n → x < y → y < suc (length (desc c)) → (cell none) desc c x < (cell none) desc c y
    cell_up c x zero cn l h = absurd (omega arith)
    cell_up c zero (suc q) cn l h = P.under c q cn (le_of_suc-le-suc h)
    cell_up c (suc p) (suc q) cn l h = P.up c p q cn (le_of_suc-le-suc l) (le_of_suc-le-suc h)

  module _ (n : ℕ) (desc : ℕ → List (Entry W)) (starts rows : List ℕ) (L : Laid none n desc starts rows) where
    pub cell_is : (c x : ℕ) → c < n → x < suc (length (desc c)) → get_or rows (get_or starts c 0 + x) 0 ≡ (cell none) desc c x
    cell_is c zero cn h = ap (λ (i : ℕ). get_or rows i 0) (add-zero (get_or starts c 0)) ∙ L.own c cn
    cell_is c (suc p) cn h = ap (λ (i : ℕ). get_or rows i 0) (shift (get_or starts c 0) p) ∙ L.below c p cn (le_of_suc-le-suc h)
      where
        shift : (a p : ℕ) → a + suc p ≡ a + 1 + p
        shift a p = omega arith

    pub width : (c : ℕ) → c < n → get_or starts (c + 1) 0 - get_or starts c 0 ≡ suc (length (desc c))
    width c cn = let e = L.next c cn in omega arith

    pub starts_up : (c k : ℕ) → c + k ≤ n → get_or starts c 0 ≤ get_or starts (c + k) 0
    starts_up c zero h = le_of_eq (ap (λ (x : ℕ). get_or starts x 0) (sym (add-zero c)))
    starts_up c (suc k) h =
        let ck : c + k < n = less c k h in
        let e : get_or starts (c + k + 1) 0 ≡ get_or starts (c + k) 0 + suc (length (desc (c + k))) = L.next (c + k) ck in
        let ih : get_or starts c 0 ≤ get_or starts (c + k) 0 = starts_up c k (le_of_lt ck) in
        subst (λ (x : ℕ). get_or starts c 0 ≤ get_or starts x 0) (shift c k) (omega arith)
      where
        less : (c k : ℕ) → c + suc k ≤ n → c + k < n
        less c k h = omega arith

        shift : (c k : ℕ) → c + k + 1 ≡ c + suc k
        shift c k = omega arith

    pub starts_le : (c d : ℕ) → c ≤ d → d ≤ n → get_or starts c 0 ≤ get_or starts d 0
    starts_le c d h dn = subst (λ (x : ℕ). get_or starts c 0 ≤ get_or starts x 0) (add-sub_of_le h)
        (starts_up c (d - c) (subst (λ (x : ℕ). x ≤ n) (sym (add-sub_of_le h)) dn))

    pub next_le : (c : ℕ) → c < n → get_or starts (c + 1) 0 ≤ get_or starts n 0
    next_le c cn = starts_le (c + 1) n (subst (λ (x : ℕ). x ≤ n) (sym (add-one c)) cn) (le_refl n)
