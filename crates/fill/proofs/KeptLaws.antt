-- Whether every diagonal and kept entry of a factor is marked, an entry at a time; with equal counts the marked set is then the pattern.
-- Assumes nothing.
use Prim.Native.Nat.{ℕ, ◌+◌, ◌≤◌, ◌<◌}
use native.Mathlib.Omega.{arith}
use mathlib.Core.Path.{◌≡◌, refl, sym, ap, subst, ◌∙◌}
use mathlib.Core.Bool.{Bool, true, false, not, ◌&&◌, ◌||◌, or-true}
use mathlib.Core.Logic.{⊎_elim}
use mathlib.Core.List.{List}
use lib.Dec.{leb, eqb}
use lib.ListN.{length}
use lib.Ieee.{Float, ne, eq}
use borrow.Author.Tests.{leb-true, eqb-true, eq-eqb, le-leb, lt-leb, not-false}
use Rattle.lists.specs.Test.{any, any_in, any_below, any_in_below, any_in_found, any_in-hit, and_left, and_right, and_both, not_so, or_cases, or_neither_left, or_neither_right}
use Rattle.pairs.specs.ColumnOrder.{column_marking, set_size}
use Rattle.pairs.proofs.ColumnOrder.{set_size_cong}
use Rattle.columns.specs.Columns.{start, row}
use Rattle.columns.specs.Kept.{f0, nonzero, kept, kept_row, kept_pair}
use Rattle.columns.specs.Form.{pattern_pair}
use Rattle.columns.proofs.Form.{pattern_pair_diagonal}
use Rattle.columns.proofs.Factor.{factor_column, starts_end}
use Rattle.closed_set.proofs.KeptSet.{pattern_pairs_size}
use Rattle.fill.specs.Agree.{same_pairs}
use Rattle.fill.proofs.AgreeLaws.{same_pairs-agree, same_pairs_all, same_pairs_missing, set_size_same}
use Rattle.fill.specs.KeptPattern.{ChoiceInput, unmarked_entry, unmarked_at, unmarked_between, ChoiceColumnInput}

-- one of column c
abbrev pub unmarked_column : ℕ → List ℕ → List ℕ → List ℕ → List Float → ℕ → Bool
unmarked_column n scratch starts rows values c = unmarked_between n scratch rows values c (start starts c) (start starts (c + 1))

-- ---- one entry, by the code's tests
module _ (n : ℕ) (scratch : List ℕ) (c r : ℕ) (l : Float) where
  pub unmarked_above : r < c → false ≡ unmarked_entry n scratch c r l
  unmarked_above h = sym (ap (λ (b : Bool). (b && ne l f0) && not (column_marking n scratch r c)) (lt-leb c r h))

  pub unmarked_zero : eq l f0 ≡ true → false ≡ unmarked_entry n scratch c r l
  unfolding ne
  unmarked_zero e = go (leb c r) (not (column_marking n scratch r c))
    where
      go : (a b : Bool) → false ≡ ((a && not (eq l f0)) && b)
      go true b = rw e
      go false b = refl

  pub unmarked_kept : c ≤ r → eq l f0 ≡ false → not (column_marking n scratch r c) ≡ unmarked_entry n scratch c r l
  unfolding ne
  unmarked_kept h e = rw (le-leb c r h, e)

module _ {n : ℕ} {starts rows : List ℕ} {values : List Float} {count closed : ℕ} {scratch : List ℕ}
    (I : ChoiceInput n starts rows values count closed scratch) where
  abbrev K : ℕ → ℕ → Bool
  K = pattern_pair starts rows (nonzero values)

  abbrev M : ℕ → ℕ → Bool
  M = column_marking n scratch

  inside : (c p : ℕ) → c < n → p < start starts (c + 1) → row rows p < n
  inside c p h l =
      let e = starts_end I.factor.starts_rise (c + 1) (omega arith) in
      I.factor.rows_ascend.inside p (omega arith)

  pub choice_starts : (c : ℕ) → c < n → c + 1 < length starts
  choice_starts c h = omega (arith, I.factor.starts_rise.columns)

  pub choice_column : (c s e : ℕ) → c < n → s ≡ start starts c → e ≡ start starts (c + 1) → ChoiceColumnInput n rows (length values) s e (length scratch)
  choice_column c s e h p q =
      let C = factor_column I.factor c h in
      rw (p, q) (record {
        small = I.small;
        ordered = C.ordered;
        stored = C.stored;
        weighed = C.weighed;
        inside = λ x lo hi. inside c x h hi;
        room = I.room;
      })

  flip : (b : Bool) → not b ≡ true → b ≡ false
  flip true q = sym q
  flip false q = refl

  -- a kept entry that is not marked
  entry_missing : (c : ℕ) → c < n → any_in (unmarked_at n scratch rows values c) (start starts c) (start starts (c + 1)) ≡ true → same_pairs n M K ≡ false
  unfolding kept_pair
  entry_missing c h t =
      let f = any_in_found (unmarked_at n scratch rows values c) (start starts c) (start starts (c + 1)) t in
      let p = f.0 in
      let k = and_left (kept rows (nonzero values) c p) (not (M (row rows p) c)) f.3 in
      let lo = leb-true c (row rows p) (and_left (leb c (row rows p)) (nonzero values p) k) in
      let there = any_in-hit (kept_row rows (nonzero values) (row rows p) c) (start starts c) (start starts (c + 1)) p f.1 f.2
      (and_both (eqb (row rows p) (row rows p)) (kept rows (nonzero values) c p) (eq-eqb (row rows p) (row rows p) refl) k) in
      same_pairs_missing n M K (row rows p) c lo (inside c p h f.2)
      (flip (M (row rows p) c) (and_right (kept rows (nonzero values) c p) (not (M (row rows p) c)) f.3))
      (ap (λ (b : Bool). eqb (row rows p) c || b) there ∙ or-true (eqb (row rows p) c))

  -- a diagonal or a kept entry that is not marked
  pub choice_missing : (c : ℕ) → c < n → unmarked_column n scratch starts rows values c ≡ true → same_pairs n M K ≡ false
  choice_missing c h t =
      ⊎_elim
      (λ d. same_pairs_missing n M K c c (omega arith) h (flip (M c c) d) (pattern_pair_diagonal starts rows (nonzero values) c))
      (λ e. entry_missing c h e)
      (or_cases (not (M c c)) (any_in (unmarked_at n scratch rows values c) (start starts c) (start starts (c + 1))) t)

  sizes : count ≡ set_size n K
  sizes = I.kept_is ∙ pattern_pairs_size (nonzero values) I.factor.starts_rise I.factor.rows_ascend

  -- sets of unequal size differ
  pub choice_sizes : (closed ≡ count → ⊥) → same_pairs n M K ≡ false
  choice_sizes d = not_so (same_pairs n M K) (λ e. d (I.closed_is ∙ set_size_cong n M K (same_pairs-agree n M K e) ∙ sym sizes))

  -- every diagonal and kept entry is marked, and as many are marked as the pattern has
  pub choice_same : closed ≡ count → any (unmarked_column n scratch starts rows values) n ≡ false → same_pairs n M K ≡ true
  unfolding kept_pair
  choice_same e t = same_pairs_all n M K (λ r c h l. sym (set_size_same n K M part (sym sizes ∙ sym e ∙ I.closed_is) r c h l))
    where
      marked : (a b : Bool) → a ≡ true → (a && not b) ≡ false → b ≡ true
      marked true true p q = refl
      marked true false p q = sym q
      marked false b p q = absurd (mathlib.Core.Bool.false≢true p)

      none : (c : ℕ) → c < n → unmarked_column n scratch starts rows values c ≡ false
      none c h = any_below (unmarked_column n scratch starts rows values) n c t h

      entry_marked : (r c : ℕ) → c ≤ r → r < n → kept_pair starts rows (nonzero values) r c ≡ true → M r c ≡ true
      entry_marked r c h l k =
          let f = any_in_found (kept_row rows (nonzero values) r c) (start starts c) (start starts (c + 1)) k in
          let p = f.0 in
          let q = eqb-true _ _ (and_left (eqb (row rows p) r) (kept rows (nonzero values) c p) f.3) in
          let u = any_in_below (unmarked_at n scratch rows values c) (start starts c) (start starts (c + 1)) p
          (or_neither_right (not (M c c)) _ (none c (omega arith))) f.1 f.2 in
          subst (λ (i : ℕ). M i c ≡ true) q
          (marked (kept rows (nonzero values) c p) (M (row rows p) c) (and_right (eqb (row rows p) r) (kept rows (nonzero values) c p) f.3) u)

      part : (r c : ℕ) → c ≤ r → r < n → K r c ≡ true → M r c ≡ true
      part r c h l k =
          ⊎_elim
          (λ q. subst (λ (i : ℕ). M i c ≡ true) (sym (eqb-true r c q)) (not-false (M c c) (or_neither_left _ _ (none c (omega arith)))))
          (λ q. entry_marked r c h l q)
          (or_cases (eqb r c) (kept_pair starts rows (nonzero values) r c) k)
