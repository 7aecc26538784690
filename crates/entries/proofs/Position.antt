-- Laws of specs/Position.antt.
use Rattle.std.specs.Prelude.{ℕ, zero, suc, ◌+◌, ◌-◌, ◌≤◌, ◌<◌, ◌≡◌, refl, Bool, true, false, List, [], ◌++◌, map, length, get_or}
use Rattle.std.proofs.Common.{arith, eq-or-lt_of_le, sym, ap, ap₂, ◌∙◌, ⊎_elim, get_or-append-add, ext_get_or}
use Rattle.std.proofs.Math.Decide.{dec_le}
use Rattle.std.proofs.Math.ListN.{get_or-append}
use Rattle.std.proofs.Math.Seq.{get_or-append_seam}
use Rattle.lists.specs.Sum.{bit, sum_to_none}
use Rattle.lists.specs.Select.{select, tally, select_yes, select_next, select_cong, tally_none, tally_next, tally_mono, get_d_mapped}
use Rattle.lists.specs.Tabulate.{tabulate_cong}
use Rattle.lists.specs.Overwrite.{overwrite, overwrite-length, overwrite_at, overwrite_past}
use Rattle.lists.specs.Cells.{cells, cell_count, cells_next, cells-length, cells_cong, cell_count_next, cell_count_mono, cell_count_cong}
use Rattle.pairs.specs.ColumnOrder.{by_column, column_first, column_end, set_size}
use Rattle.entries.specs.Entries.{column_count, position, entry_starts, entry_rows, entry_values}
use Rattle.entries.proofs.Entries.{entry_values-length}

-- ---- one column

module _ (test : ℕ → Bool) where
  -- a number that passes counts
  pub tally-strict : (s k e : ℕ) → s ≤ k → k < e → test k ≡ true → tally test s k < tally test s e
  tally-strict s k e h l t =
      let q = tally_next test s k h ∙ ap (λ (b : Bool). tally test s k + bit b) t in
      omega (arith, q, tally_mono test s (k + 1) e (omega arith) (omega arith))

  -- it stands where as many stand before it
  tally_at : (s k m : ℕ) → s ≤ k → test k ≡ true → get_or (select test s (k + 1 + m)) (tally test s k) 0 ≡ k
  tally_at s k zero h t =
      let q : k + 1 + 0 ≡ k + 1 = omega arith in
      ap (λ (e : ℕ). get_or (select test s e) (tally test s k) 0) q
      ∙ ap (λ (l : List ℕ). get_or l (tally test s k) 0) (select_yes test s k h t) ∙ get_or-append_seam (select test s k) k [] 0
  tally_at s k (suc m) h t =
      let q : k + 1 + suc m ≡ k + 1 + m + 1 = omega arith in
      ap (λ (e : ℕ). get_or (select test s e) (tally test s k) 0) q
      ∙ ap (λ (l : List ℕ). get_or l (tally test s k) 0) (select_next test s (k + 1 + m) (omega arith))
      ∙ get_or-append (select test s (k + 1 + m)) _ 0 (tally test s k) (tally-strict s k (k + 1 + m) h (omega arith) t) ∙ tally_at s k m h t

  pub select-tally : (s k e : ℕ) → s ≤ k → k < e → test k ≡ true → get_or (select test s e) (tally test s k) 0 ≡ k
  select-tally s k e h l t =
      let q : k + 1 + (e - (k + 1)) ≡ e = omega arith in
      ap (λ (x : ℕ). get_or (select test s x) (tally test s k) 0) (sym q) ∙ tally_at s k (e - (k + 1)) h t

  -- each count is that of a number that passes
  abbrev Counted : ℕ → ℕ → ℕ → Type 0
  Counted s e q = (k : ℕ) × (s ≤ k) × (k < e) × (test k ≡ true) × (tally test s k ≡ q)

  tally_found : (s m q : ℕ) → q < tally test s (s + m) → Counted s (s + m) q
  tally_found s zero q l =
      let z : s + 0 ≡ s = omega arith in
      absurd (omega (arith, ap (tally test s) z, tally_none test s))
  tally_found s (suc m) q l = go (test (s + m)) refl (λ h. tally_found s m q h)
    where
      z : s + suc m ≡ s + m + 1
      z = omega arith

      next : (b : Bool) → test (s + m) ≡ b → tally test s (s + suc m) ≡ tally test s (s + m) + bit b
      next b t = ap (tally test s) z ∙ tally_next test s (s + m) (omega arith) ∙ ap (λ (b : Bool). tally test s (s + m) + bit b) t

      up : Counted s (s + m) q → Counted s (s + suc m) q
      up w = (w.0, w.1, omega (arith, w.2), w.3, w.4)

      go : (b : Bool) → test (s + m) ≡ b → (q < tally test s (s + m) → Counted s (s + m) q) → Counted s (s + suc m) q
      go true t before =
          let n = next true t in
          let h : q ≤ tally test s (s + m) = omega arith in
          ⊎_elim (λ e. (s + m, omega arith, omega arith, t, sym e)) (λ e. up (before e)) (eq-or-lt_of_le h)
      go false t before = let n = next false t in up (before (omega arith))

-- ---- positions

module _ (n : ℕ) (S : ℕ → ℕ → Bool) where
  pub column_count_none : column_count n S 0 ≡ 0
  unfolding cell_count
  column_count_none = sum_to_none _

  pub column_count_next : (c : ℕ) → column_count n S (c + 1) ≡ column_count n S c + tally (by_column S c) c n
  column_count_next c = cell_count_next (by_column S) column_first (column_end n) c

  pub column_count_mono : (c e : ℕ) → c ≤ e → column_count n S c ≤ column_count n S e
  column_count_mono c e h = cell_count_mono (by_column S) column_first (column_end n) c e h

  -- a column's first position is its start
  pub position_first : (c : ℕ) → position n S c c ≡ column_count n S c
  position_first c = omega (arith, tally_none (by_column S c) c)

  -- a member's position lies in its column
  pub position_in : (r c : ℕ) → c ≤ r → r < n → S r c ≡ true → position n S r c < column_count n S (c + 1)
  position_in r c h l t = omega (arith, column_count_next c, tally-strict (by_column S c) c r n h l t)

  pub position_below : (r c m : ℕ) → c ≤ r → r < n → c < m → S r c ≡ true → position n S r c < column_count n S m
  position_below r c m h l k t = omega (arith, position_in r c h l t, column_count_mono (c + 1) m (omega arith))

  -- positions rise along a column
  pub position_rises : (r s c : ℕ) → c ≤ r → r < s → S r c ≡ true → position n S r c < position n S s c
  position_rises r s c h l t = omega (arith, tally-strict (by_column S c) c r s h l t)

  -- a position in a column is a member's
  pub position_found : (c p : ℕ) → c < n → column_count n S c ≤ p → p < column_count n S (c + 1)
      → (r : ℕ) × (c ≤ r) × (r < n) × (S r c ≡ true) × (position n S r c ≡ p)
  position_found c p h lo hi =
      let q : c + (n - c) ≡ n = omega arith in
      let w = tally_found (by_column S c) c (n - c) (p - column_count n S c) (omega (arith, column_count_next c, ap (tally (by_column S c) c) q)) in
      (w.0, w.1, omega (arith, w.2), w.3, omega (arith, w.4))

  -- and every position
  pub position_onto : (m p : ℕ) → m ≤ n → p < column_count n S m → (r : ℕ) × (c : ℕ) × (c ≤ r) × (r < n) × (S r c ≡ true) × (position n S r c ≡ p)
  position_onto zero p h l = absurd (omega (arith, column_count_none))
  position_onto (suc m) p h l = elim (dec_le (column_count n S m) p) [
    | yes q ↦
        let z : suc m ≡ m + 1 = omega arith in
        let w = position_found m p (omega arith) q (omega (arith, ap (column_count n S) z)) in
        (w.0, m, w.1, w.2, w.3, w.4)
    | no q ↦ position_onto m p (omega arith) (omega arith)
  ]

-- ---- what stands at a member's position

module _ {A : Type 0} (n : ℕ) (S : ℕ → ℕ → Bool) (f : ℕ → ℕ → A) (d : A) where
  abbrev listed : ℕ → List A
  listed m = cells (by_column S) column_first (column_end n) f m

  in_column : (r c : ℕ) → c ≤ r → r < n → S r c ≡ true → get_or (listed (c + 1)) (position n S r c) d ≡ f c r
  in_column r c h l t =
      let rows = select (by_column S c) c n in
      let k = tally (by_column S c) c r in
      let q = cells-length (by_column S) column_first (column_end n) f c in
      let inside = tally-strict (by_column S c) c r n h l t in
      ap (λ (x : List A). get_or x (position n S r c) d) (cells_next (by_column S) column_first (column_end n) f c)
      ∙ ap (λ (x : ℕ). get_or (listed c ++ map (f c) rows) (x + k) d) (sym q)
      ∙ get_or-append-add (listed c) (map (f c) rows) k d
      ∙ get_d_mapped (f c) rows k 0 d inside ∙ ap (f c) (select-tally (by_column S c) c r n h l t)

  from_column : (r c m : ℕ) → c ≤ r → r < n → S r c ≡ true → get_or (listed (c + 1 + m)) (position n S r c) d ≡ f c r
  from_column r c zero h l t =
      let q : c + 1 + 0 ≡ c + 1 = omega arith in
      ap (λ (x : ℕ). get_or (listed x) (position n S r c) d) q ∙ in_column r c h l t
  from_column r c (suc m) h l t =
      let q : c + 1 + suc m ≡ c + 1 + m + 1 = omega arith in
      let e = cells-length (by_column S) column_first (column_end n) f (c + 1 + m) in
      ap (λ (x : ℕ). get_or (listed x) (position n S r c) d) q
      ∙ ap (λ (x : List A). get_or x (position n S r c) d) (cells_next (by_column S) column_first (column_end n) f (c + 1 + m))
      ∙ get_or-append (listed (c + 1 + m)) _ d (position n S r c) (omega (arith, position_below n S r c (c + 1 + m) h l (omega arith) t))
      ∙ from_column r c m h l t

  listed_at : (r c : ℕ) → c ≤ r → r < n → S r c ≡ true → get_or (listed n) (position n S r c) d ≡ f c r
  listed_at r c h l t =
      let q : c + 1 + (n - (c + 1)) ≡ n = omega arith in
      ap (λ (x : ℕ). get_or (listed x) (position n S r c) d) (sym q) ∙ from_column r c (n - (c + 1)) h l t

module _ (n : ℕ) (S : ℕ → ℕ → Bool) where
  pub entry_rows_at : (r c : ℕ) → c ≤ r → r < n → S r c ≡ true → get_or (entry_rows n S) (position n S r c) 0 ≡ r
  entry_rows_at r c h l t = listed_at n S (λ c r. r) 0 r c h l t

  module _ {A : Type 0} (Z : ℕ → ℕ → A) (d : A) where
    pub entry_values_at : (r c : ℕ) → c ≤ r → r < n → S r c ≡ true → get_or (entry_values n S Z) (position n S r c) d ≡ Z r c
    entry_values_at r c h l t = listed_at n S (λ c r. Z r c) d r c h l t

    -- a list with the table's value at each member's position, and behind them what old has
    pub entry_values-overwrite : (old new : List A) → set_size n S ≤ length old → length new ≡ length old
        → ((i : ℕ) → set_size n S ≤ i → get_or new i d ≡ get_or old i d)
        → ((r c : ℕ) → c ≤ r → r < n → S r c ≡ true → get_or new (position n S r c) d ≡ Z r c) → new ≡ overwrite (entry_values n S Z) old
    entry_values-overwrite old new fits long rest values =
        ext_get_or d new (overwrite (entry_values n S Z) old) (long ∙ sym (overwrite-length (entry_values n S Z) old (omega (arith, size))))
        (λ i l. elim (dec_le (set_size n S) i) [ yes q ↦ behind i q | no q ↦ here i (omega arith) ])
      where
        size : length (entry_values n S Z) ≡ set_size n S
        size = entry_values-length n S Z

        here : (i : ℕ) → i < set_size n S → get_or new i d ≡ get_or (overwrite (entry_values n S Z) old) i d
        here i l =
            let w = position_onto n S n i (omega arith) l in
            ap (λ (x : ℕ). get_or new x d) (sym w.5) ∙ values w.0 w.1 w.2 w.3 w.4
            ∙ sym (entry_values_at w.0 w.1 w.2 w.3 w.4) ∙ ap (λ (x : ℕ). get_or (entry_values n S Z) x d) w.5
            ∙ sym (overwrite_at (entry_values n S Z) old i d (omega (arith, size)))

        behind : (i : ℕ) → set_size n S ≤ i → get_or new i d ≡ get_or (overwrite (entry_values n S Z) old) i d
        behind i l = rest i l ∙ sym (overwrite_past (entry_values n S Z) old i d (omega (arith, size)))

-- ---- sets that agree on the pairs

module _ (n : ℕ) (S R : ℕ → ℕ → Bool) (same : (r c : ℕ) → c ≤ r → r < n → S r c ≡ R r c) where
  pub column_count_cong : (c : ℕ) → column_count n S c ≡ column_count n R c
  column_count_cong c = cell_count_cong (by_column S) (by_column R) column_first (column_end n) c (λ c r l lo hi. same r c lo hi)

  pub position_cong : (r c : ℕ) → r < n → position n S r c ≡ position n R r c
  position_cong r c l = ap₂ ◌+◌ (column_count_cong c) (ap length (select_cong (by_column S c) (by_column R c) c r (λ k lo hi. same k c lo (omega arith))))

  pub entry_starts_cong : entry_starts n S ≡ entry_starts n R
  entry_starts_cong = tabulate_cong (column_count n S) (column_count n R) (n + 1) (λ c l. column_count_cong c)

  pub entry_rows_cong : entry_rows n S ≡ entry_rows n R
  entry_rows_cong = cells_cong (by_column S) (by_column R) column_first (column_end n) (λ c r. r) n (λ c r l lo hi. same r c lo hi)

  pub entry_values_cong : {A : Type 0} (Z : ℕ → ℕ → A) → entry_values n S Z ≡ entry_values n R Z
  entry_values_cong Z = cells_cong (by_column S) (by_column R) column_first (column_end n) (λ c r. Z r c) n (λ c r l lo hi. same r c lo hi)
