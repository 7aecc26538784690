-- Tests of the elements of a list, and of the members of a set of cells: laws of lists that only files of requests need.
-- Assumes nothing.
use Prim.Native.Nat.{ℕ, zero, suc, ◌+◌, ◌≤◌, ◌<◌}
use native.Mathlib.Omega.{arith}
use Rattle.std.proofs.Common.{not-suc-le-zero, eq-or-lt_of_le, le_of_suc-le-suc, ap, ap₂, subst, ◌∙◌}
use Rattle.std.specs.Prelude.{◌≡◌, Bool, true, false, ◌⊎◌, length, get_or}
use Rattle.std.proofs.Math.Path.{refl, sym}
use Rattle.std.proofs.lemmas.Bool.{false≢true}
use mathlib.Core.List.{List, [], ◌∷◌, ◌++◌, map, map-append}
use Rattle.std.proofs.Math.Logic.{inl, inr, ⊎_elim}
use Rattle.std.proofs.Math.ListN.{length-map}
use Rattle.lists.specs.Every.{every, some}
use Rattle.lists.specs.Test.{and_left, and_right, and_both, or_left, or_right, or_cases, or_neither_left, or_neither_right}
use Rattle.lists.specs.Select.{select, tally, tally_most, Picked, select_at, select_holds, get_d_mapped}
use Rattle.lists.specs.Cells.{cells}

-- ---- one list behind another
module _ {A : Type 0} (test : A → Bool) where
  pub every_both : (l m : List A) → every test l ≡ true → every test m ≡ true → every test (l ++ m) ≡ true
  unfolding every
  every_both [] m p q = q
  every_both (x ∷ l) m p q = and_both (test x) _ (and_left (test x) _ p) (every_both l m (and_right (test x) (every test l) p) q)

  some_front : (l m : List A) → some test l ≡ true → some test (l ++ m) ≡ true
  unfolding some
  some_front [] m p = absurd (false≢true p)
  some_front (x ∷ l) m p = ⊎_elim (λ e. or_left (test x) _ e) (λ e. or_right (test x) _ (some_front l m e)) (or_cases (test x) (some test l) p)

  some_back : (l m : List A) → some test m ≡ true → some test (l ++ m) ≡ true
  unfolding some
  some_back [] m p = p
  some_back (x ∷ l) m p = or_right (test x) _ (some_back l m p)

  some_either : (l m : List A) → some test (l ++ m) ≡ true → (some test l ≡ true) ⊎ (some test m ≡ true)
  unfolding some
  some_either [] m p = inr p
  some_either (x ∷ l) m p =
      ⊎_elim
      (λ e. inl (or_left (test x) _ e))
      (λ e. ⊎_elim (λ q. inl (or_right (test x) _ q)) (λ q. inr q) (some_either l m e))
      (or_cases (test x) (some test (l ++ m)) p)

-- ---- by place
module _ {A : Type 0} (d : A) (test : A → Bool) where
  pub every_at : (l : List A) → ((i : ℕ) → i < length l → test (get_or l i d) ≡ true) → every test l ≡ true
  unfolding every
  every_at [] h = refl
  every_at (x ∷ l) h = and_both (test x) _ (h 0 (omega arith)) (every_at l (λ i m. h (suc i) (omega arith)))

  pub some_at : (l : List A) (i : ℕ) → i < length l → test (get_or l i d) ≡ true → some test l ≡ true
  unfolding some
  some_at [] i h t = absurd (not-suc-le-zero h)
  some_at (x ∷ l) zero h t = or_left (test x) _ t
  some_at (x ∷ l) (suc i) h t = or_right (test x) _ (some_at l i (le_of_suc-le-suc h) t)

  pub some_found : (l : List A) → some test l ≡ true → (i : ℕ) × (i < length l) × (test (get_or l i d) ≡ true)
  unfolding some
  some_found [] h = absurd (false≢true h)
  some_found (x ∷ l) h =
      ⊎_elim (λ e. (0, omega arith, e)) (λ e. let f = some_found l e in (suc f.0, omega (arith, f.1), f.2)) (or_cases (test x) (some test l) h)

  pub some_below : (l : List A) (i : ℕ) → some test l ≡ false → i < length l → test (get_or l i d) ≡ false
  unfolding some
  some_below [] i e h = absurd (not-suc-le-zero h)
  some_below (x ∷ l) zero e h = or_neither_left (test x) _ e
  some_below (x ∷ l) (suc i) e h = some_below l i (or_neither_right (test x) _ e) (le_of_suc-le-suc h)

-- ---- the members of a set of cells
module _ {A : Type 0} (d : A) (S : ℕ → ℕ → Bool) (lo hi : ℕ → ℕ) (f : ℕ → ℕ → A) (test : A → Bool) where
  -- the number at a place of what is selected for o
  abbrev chosen : ℕ → ℕ → ℕ
  chosen o i = get_or (select (S o) (lo o) (hi o)) i 0

  picked_at : (o i : ℕ) → i < tally (S o) (lo o) (hi o) → Picked (S o) (lo o) (hi o) (select (S o) (lo o) (hi o)) i
  picked_at o i l = select_at (S o) (lo o) (hi o) i (omega (arith, tally_most (S o) (lo o) (hi o))) l

  row_every : (o : ℕ) → ((i : ℕ) → lo o ≤ i → i < hi o → S o i ≡ true → test (f o i) ≡ true) → every test (map (f o) (select (S o) (lo o) (hi o))) ≡ true
  row_every o h =
      every_at d test _
      (λ i l.
      let m : i < tally (S o) (lo o) (hi o) = omega (arith, length-map (select (S o) (lo o) (hi o)) (f o)) in
      let u = picked_at o i m in
      ap test (get_d_mapped (f o) (select (S o) (lo o) (hi o)) i 0 d m) ∙ h (chosen o i) u.from u.below u.passes)

  pub cells-every : (m : ℕ) → ((o i : ℕ) → o < m → lo o ≤ i → i < hi o → S o i ≡ true → test (f o i) ≡ true) → every test (cells S lo hi f m) ≡ true
  unfolding cells every
  cells-every zero h = refl
  cells-every (suc o) h = every_both test (cells S lo hi f o) _ (cells-every o (λ k i l. h k i (omega arith))) (row_every o (λ i. h o i (omega arith)))

  row_hit : (o i : ℕ) → lo o ≤ i → i < hi o → S o i ≡ true → test (f o i) ≡ true → some test (map (f o) (select (S o) (lo o) (hi o))) ≡ true
  row_hit o i a b s t =
      let g = select_holds (S o) (lo o) (hi o) i a b s in
      some_at d test _ g.0 (omega (arith, g.1, length-map (select (S o) (lo o) (hi o)) (f o)))
      (ap test (get_d_mapped (f o) (select (S o) (lo o) (hi o)) g.0 0 d g.1 ∙ ap (f o) g.2) ∙ t)

  pub cells-hit : (m o i : ℕ) → o < m → lo o ≤ i → i < hi o → S o i ≡ true → test (f o i) ≡ true → some test (cells S lo hi f m) ≡ true
  unfolding cells
  cells-hit zero o i l a b s t = absurd (not-suc-le-zero l)
  cells-hit (suc m) o i l a b s t =
      ⊎_elim
      (λ q. some_back test (cells S lo hi f m) _ (subst (λ (k : ℕ). some test (map (f k) (select (S k) (lo k) (hi k))) ≡ true) q (row_hit o i a b s t)))
      (λ q. some_front test (cells S lo hi f m) _ (cells-hit m o i q a b s t))
      (eq-or-lt_of_le (le_of_suc-le-suc l))

  pub cells_found : (m : ℕ) → some test (cells S lo hi f m) ≡ true
      → (o : ℕ) × (i : ℕ) × (o < m) × (lo o ≤ i) × (i < hi o) × (S o i ≡ true) × (test (f o i) ≡ true)
  unfolding cells some
  cells_found zero h = absurd (false≢true h)
  cells_found (suc m) h =
      ⊎_elim
      (λ q. let g = cells_found m q in (g.0, g.1, omega (arith, g.2), g.3, g.4, g.5, g.6))
      (λ q.
      let g = some_found d test (map (f m) (select (S m) (lo m) (hi m))) q in
      let l : g.0 < tally (S m) (lo m) (hi m) = omega (arith, g.1, length-map (select (S m) (lo m) (hi m)) (f m)) in
      let u = picked_at m g.0 l in
      (m, chosen m g.0, omega arith, u.from, u.below, u.passes, sym (ap test (get_d_mapped (f m) (select (S m) (lo m) (hi m)) g.0 0 d l)) ∙ g.2))
      (some_either test (cells S lo hi f m) _ h)

-- a function of each member
map_same : {A B C : Type 0} (g : B → C) (f : A → B) (h : A → C) → ((x : A) → g (f x) ≡ h x) → (l : List A) → map g (map f l) ≡ map h l
map_same g f h e [] = refl
map_same g f h e (x ∷ l) = ap₂ ◌∷◌ (e x) (map_same g f h e l)

pub cells-map : {A B : Type 0} (S : ℕ → ℕ → Bool) (lo hi : ℕ → ℕ) (g : A → B) (f : ℕ → ℕ → A) (h : ℕ → ℕ → B) → ((o i : ℕ) → g (f o i) ≡ h o i) → (m : ℕ)
    → map g (cells S lo hi f m) ≡ cells S lo hi h m
unfolding cells
cells-map S lo hi g f h e zero = refl
cells-map S lo hi g f h e (suc o) =
    map-append g (cells S lo hi f o) _ ∙ ap₂ ◌++◌ (cells-map S lo hi g f h e o) (map_same g (f o) (h o) (e o) (select (S o) (lo o) (hi o)))
