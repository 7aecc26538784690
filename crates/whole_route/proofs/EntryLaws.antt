-- One entry of the recurrence in whole numbers: what its sum asks, and that sum and last step give the table's entry or tell that it exceeds 2 ^ 53.
-- Assumes nothing.
use Prim.Native.Nat.{ℕ, suc, ◌+◌, ◌≤◌, ◌<◌, min, max}
use native.Mathlib.Omega.{arith}
use native.Mathlib.Nat.{le_refl, le_of_lt}
use native.Mathlib.Decide.{ℕ_discrete}
use mathlib.Core.Path.{◌≡◌, refl, sym, ap, ap₂, subst, ◌∙◌}
use mathlib.Core.Bool.{Bool, true, false, cond, ◌||◌, or-false}
use mathlib.Core.List.{List, [], ◌∷◌, map}
use lib.ListN.{length, get_or}
use lib.IntN.{ℤ, pos, neg_ℤ, ◌-ℤ◌}
use borrow.Author.Tests.{eq-eqb, ne_eqb}
use Rattle.lists.specs.Test.{or_right}
use Rattle.lists.specs.Select.{select_at}
use Rattle.refusal.specs.Steps.{Reply, refused, answered}
use Rattle.pairs.specs.ColumnOrder.{column_marking}
use Rattle.columns.specs.Columns.{start, row}
use Rattle.columns.specs.Kept.{kept_below, desc_places}
use Rattle.columns.specs.Factor.{Factor}
use Rattle.columns.proofs.Pattern.{kept_below_kept}
use Rattle.columns.specs.WholeFactor.{whole_nonzero, whole_stored, whole_desc}
use Rattle.takahashi.specs.Entries.{Each, Ascend}
use Rattle.takahashi.proofs.Entries.{each_of_rows, ascend_rows}
use Rattle.takahashi.specs.Recurrence.{at, dot, Lower, Solves}
use Rattle.takahashi.proofs.Recurrence.{at_sym, at_lower, run_each}
use Rattle.exact.specs.Multiple.{Small}
use Rattle.exact.specs.Exact.{integers}
use Rattle.exact.specs.ExactCase.{ones, unit_off, unit_on, unit_table}
use Rattle.exact.proofs.ExactCase.{unit_solves}
use Rattle.exact.specs.Checked.{beyond, sum_exceeds}
use Rattle.exact.proofs.Checked.{checked-run, checked_each}
use Rattle.exact.specs.Exceeds.{entry_exceeds}
use Rattle.entries.specs.Entries.{position}
use Rattle.entries.proofs.Position.{column_count_mono, position_in, position_below, position_rises}
use Rattle.entries.specs.WholeTable.{whole_table}
use Rattle.entries.proofs.WholeTable.{whole_desc-ascend}
use Rattle.whole_route.specs.Sums.{whole_inverse_at, whole_sum, WholeSumInput}
use Rattle.whole_route.proofs.PairLaws.{Kept, row_below, column, row_inside, pair_member, read_place}
use Rattle.whole_route.specs.Route.{last_step, EntryInput}

-- ---- one entry
module _ {n i j q s e : ℕ} {starts rows : List ℕ} {values : List ℤ} {scratch : List ℕ} {work : List ℤ}
    (E : EntryInput n i j q s e starts rows values scratch work) where
  abbrev S : ℕ → ℕ → Bool
  S = column_marking n scratch

  abbrev Z : ℕ → ℕ → ℤ
  Z = unit_table n (whole_desc starts rows values)

  abbrev nz : ℕ → Bool
  nz = whole_nonzero values

  F : Factor n starts rows (length values)
  F = E.whole.factor

  jn : j < n
  jn = omega (arith, E.ordered, E.inside)

  -- its place is there
  pub entry_place : q < length work
  entry_place = omega (arith, position_below n S i j n E.ordered E.inside jn E.member, E.position_is, E.fits)

  dependency : (p : ℕ) → Kept E.whole j p → S (max i (row rows p)) (min i (row rows p)) ≡ true
  dependency = pair_member E.whole i j E.ordered E.inside E.member

  -- the pair with a descendant stands behind (i, j): in a later column or, of the diagonal's own, at a greater row
  behind : (k : ℕ) → j < k → k < n → S (max i k) (min i k) ≡ true → q + 1 ≤ position n S (max i k) (min i k)
  behind k jk kn t = elim (ℕ_discrete i j) [
    | yes same ↦
        let a : max i k ≡ k = omega arith in
        let b : min i k ≡ j = omega arith in
        let p : position n S i j < position n S k j =
        subst (λ (x : ℕ). position n S x j < position n S k j) (sym same) (position_rises n S j k j (omega arith) jk (subst (λ (x : ℕ). S x j ≡ true) same E.member)) in
        omega (arith, E.position_is, ap₂ (position n S) a b)
    | no other ↦
        omega (
          arith,
          E.position_is,
          position_in n S i j E.ordered E.inside E.member,
          column_count_mono n S (j + 1) (min i k) (later other),
        )
  ]
    where
      later : (i ≡ j → ⊥) → j + 1 ≤ min i k
      later other = least i j k E.ordered other jk
        where
          least : (i j k : ℕ) → j ≤ i → (i ≡ j → ⊥) → j < k → j + 1 ≤ min i k
          least i j k h d l = omega arith

  -- so its entry is read
  read : (p : ℕ) → Kept E.whole j p → (whole_inverse_at n scratch work i (row rows p) ≡ at Z i (row rows p)) × Small (at Z i (row rows p))
  unfolding whole_table
  read p k =
      let kn = row_inside E.whole j jn p k.0 k.1 in
      let t = dependency p k in
      let w = E.whole.positions (max i (row rows p)) (min i (row rows p)) (omega arith) (omega (arith, E.inside)) t in
      let d = E.later (max i (row rows p)) (min i (row rows p)) (omega arith) (omega (arith, E.inside)) t (behind (row rows p) (row_below E.whole j p k) kn t) in
      (ap (λ (x : ℕ). get_or work x (pos 0)) w ∙ d.0, d.1)

  -- what the sum asks
  pub entry_sum_input : WholeSumInput n i j (start starts j) (start starts (j + 1)) rows values scratch work
  entry_sum_input = record {
    small = E.whole.small;
    left = E.inside;
    column = column E.whole j jn;
    inside = row_inside E.whole j jn;
    room = E.whole.room;
    known = λ p lo hi k. omega (arith, read_place E.whole i j E.ordered E.inside E.member p (lo, hi, k), E.fits);
    factor_small = λ p lo hi k. E.whole.kept_small j p jn lo hi (kept_below_kept rows nz j p k);
    inverse_small = λ p lo hi k.
        let r = read p (lo, hi, k) in
        subst Small (sym r.0) r.1;
  }

  -- the sum is the exact one, or 20
  each_read : Each (λ k. whole_inverse_at n scratch work i k ≡ at Z i k) (whole_desc starts rows values j)
  each_read =
      each_places (desc_places starts rows nz j)
      (λ m l.
      let u = select_at (kept_below rows nz j) (start starts j) (start starts (j + 1)) m (F.starts_rise.rising j jn) l in
      (read (get_or (desc_places starts rows nz j) m 0) (u.from, u.below, u.passes)).0)
    where
      each_places : (l : List ℕ) → ((m : ℕ) → m < length l → whole_inverse_at n scratch work i (row rows (get_or l m 0)) ≡ at Z i (row rows (get_or l m 0)))
          → Each (λ k. whole_inverse_at n scratch work i k ≡ at Z i k) (map (whole_stored rows values) l)
      each_places [] h = tt
      each_places (p ∷ l) h = (h 0 (omega arith), each_places l (λ m o. h (suc m) (omega arith)))

  abbrev steps : Bool
  steps = sum_exceeds (at Z i) (pos 0) (whole_desc starts rows values j)

  abbrev exact : ℤ
  exact = dot integers (at Z i) (whole_desc starts rows values j)

  pub entry_sum_is : whole_sum rows values j (whole_inverse_at n scratch work i) (start starts j) (start starts (j + 1)) ≡ cond steps (refused 20) (answered exact)
  unfolding whole_sum
  entry_sum_is =
      checked_each (whole_inverse_at n scratch work i) (at Z i) (answered (pos 0)) (whole_desc starts rows values j) each_read
      ∙ checked-run (at Z i) (pos 0) (whole_desc starts rows values j)

  -- the last step gives the table's entry
  pub entry_last : last_step i j exact ≡ Z i j
  entry_last = elim (ℕ_discrete i j) [
    | yes same ↦
        ap (λ (b : Bool). cond b (pos 1 -ℤ exact) (neg_ℤ exact)) (eq-eqb i j same)
        ∙ subst (λ (x : ℕ). (pos 1 -ℤ dot integers (at Z x) (whole_desc starts rows values j)) ≡ Z x j) (sym same) diagonal
    | no other ↦
        ap (λ (b : Bool). cond b (pos 1 -ℤ exact) (neg_ℤ exact)) (ne_eqb i j other)
        ∙ sym (solves.below_is i j (E.ordered, E.inside) (strict E.ordered other))
  ]
    where
      strict : j ≤ i → (i ≡ j → ⊥) → j < i
      strict h d = omega arith

      ascend : (c : ℕ) → c < n → Ascend n (suc c) (whole_desc starts rows values c)
      ascend c h = whole_desc-ascend values F c h

      solves : Solves integers unit_off unit_on ones (whole_desc starts rows values) (Lower n) Z
      solves = unit_solves n (whole_desc starts rows values) ascend

      diagonal : (pos 1 -ℤ dot integers (at Z j) (whole_desc starts rows values j)) ≡ Z j j
      diagonal =
          ap (λ (x : ℤ). pos 1 -ℤ x)
          (run_each integers (at Z j) (λ k. Z k j) (pos 0) (whole_desc starts rows values j)
          (each_of_rows n j (λ k. at Z j k ≡ Z k j) (whole_desc starts rows values j) (λ k jk kn. at_sym Z j k ∙ at_lower Z k j (le_of_lt jk))
          (ascend_rows n j (suc j) (whole_desc starts rows values j) (le_refl (suc j)) (ascend j jn))))
          ∙ sym (solves.diagonal_is j (le_refl j, jn))

  -- a sum that is beyond, and one that is a number
  pub entry_stopped : {reply : Reply ℤ} → reply ≡ whole_sum rows values j (whole_inverse_at n scratch work i) (start starts j) (start starts (j + 1)) → reply ≡ refused 20
      → true ≡ entry_exceeds (whole_desc starts rows values) (whole_table n starts rows values) i j
  unfolding whole_table
  entry_stopped e r = sym (or_right (beyond (Z i j)) steps (go steps (sym entry_sum_is ∙ sym e ∙ r)))
    where
      go : (b : Bool) → cond b (refused 20) (answered exact) ≡ refused 20 → b ≡ true
      go true p = refl
      go false p = absurd (omega (arith, let z : ◌≡◌ {A = ℕ} 0 1 = cc in z))

  pub entry_number : {x : ℤ} → answered x ≡ whole_sum rows values j (whole_inverse_at n scratch work i) (start starts j) (start starts (j + 1))
      → (last_step i j x ≡ whole_table n starts rows values i j)
      × (beyond (whole_table n starts rows values i j) ≡ entry_exceeds (whole_desc starts rows values) (whole_table n starts rows values) i j)
  unfolding whole_table
  entry_number {x} e = go steps (entry_sum_is) refl
    where
      go : (b : Bool) → whole_sum rows values j (whole_inverse_at n scratch work i) (start starts j) (start starts (j + 1)) ≡ cond b (refused 20) (answered exact) → steps ≡ b
          → (last_step i j x ≡ Z i j) × (beyond (Z i j) ≡ (beyond (Z i j) || steps))
      go true p t = absurd (let w : answered x ≡ refused 20 = e ∙ p in let z : ◌≡◌ {A = ℕ} 0 1 = cc in omega arith)
      go false p t =
          let same : x ≡ exact = let w : answered x ≡ answered exact = e ∙ p in cc in
          (ap (last_step i j) same ∙ entry_last, sym (ap (λ (b : Bool). beyond (Z i j) || b) t ∙ or-false (beyond (Z i j))))
