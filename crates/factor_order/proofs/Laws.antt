-- Laws of specs/Laws.antt.
use Prim.Native.Nat.{ℕ, zero, suc, ◌+◌, ◌-◌, ◌≤◌, ◌<◌}
use Rattle.std.proofs.Common.{arith, not-suc-le-zero, eq-or-lt_of_le, le_of_suc-le-suc, add-one, subst, ◌∙◌, length-set, ext_get_or, ltb-false, leb-false, eqb-true, eq-eqb, ne_eqb}
use Rattle.std.proofs.Math.Decide.{dec_lt}
use Rattle.std.specs.Prelude.{◌≡◌, Bool, true, false, not, ◌||◌, ◌⊎◌, List, [], ◌∷◌, ◌++◌, ltb, eqb, length, get_or, set}
use Rattle.std.proofs.Math.Path.{refl, sym, ap}
use Rattle.std.proofs.Math.Bool.{or-false}
use Rattle.std.proofs.Math.Logic.{⊎_elim}
use Rattle.std.proofs.Math.Seq.{get_or-set_same, get_or-set_other}
use Rattle.std.proofs.lemmas.Bool.{lt-leb, eqb-false, not-false}
use Rattle.lists.specs.Test.{any_none, any_next, any-hit, any_below, any_all, any_found}
use Rattle.lists.specs.Place.{place_from_at}
use Rattle.lists.specs.Sum.{bit, bit_most, sum_to, sum_to_zero, sum_to_one, sum_to_room}
use Rattle.lists.specs.Tabulate.{tabulate-length, tabulate_at}
use Rattle.lists.specs.Overwrite.{overwrite, overwrite-length, overwrite_at, overwrite_past}
use Rattle.refusal.specs.Bounds.{max_dimension}
use Rattle.refusal.specs.Steps.{each, Passed, Clear}
use Rattle.refusal.proofs.Steps.{passed_clear, clear_passed, passed_append, passed_front, passed_back, each_passed, passed_each}
use Rattle.factor_order.specs.Permutation.{index, among, index_steps, inverse_steps, permutation_steps, accept_steps, marked_steps, long_step, room_step, index_place, inverse_of, reordered, Permutation}
use Rattle.factor_order.specs.Laws.{Distinct, stored_to}

pub passed_distinct : (perm : List ℕ) → Passed (permutation_steps perm) → Distinct perm
passed_distinct perm p = record {
  inside = λ i l. leb-false _ _ (clear i l).0;
  once = λ j i m l e. eqb-false _ _ (any_below _ i j (clear i l).1.0 m) e;
}
  where
    clear : (i : ℕ) → i < length perm → Clear (index_steps perm i)
    clear i l = passed_clear (index_steps perm i) (each_passed (index_steps perm) (length perm) i p l)

pub distinct_passed : (perm : List ℕ) → Distinct perm → Passed (permutation_steps perm)
distinct_passed perm D =
    passed_each (index_steps perm) (length perm)
    (λ i l. clear_passed (index_steps perm i) (lt-leb _ _ (D.inside i l), (any_all _ i (λ j m. ne_eqb _ _ (D.once j i m l)), tt)))

-- ---- n distinct indices below n are all of them

-- how many of 0 to n - 1 are among the first i
abbrev covered : List ℕ → ℕ → ℕ
covered perm i = sum_to (λ k. bit (among perm i k)) (length perm)

module _ (perm : List ℕ) (D : Distinct perm) where
  fresh : (i : ℕ) → i < length perm → among perm i (index perm i) ≡ false
  fresh i l = any_all _ i (λ j m. ne_eqb _ _ (D.once j i m l))

  covers : (i : ℕ) → i ≤ length perm → covered perm i ≡ i
  covers zero h = sum_to_zero _ (length perm) (λ k l. ap bit (any_none _))
  covers (suc i) h =
      let at = index perm i in
      let step : (k : ℕ) → among perm (i + 1) k ≡ (among perm i k || eqb at k) = λ k. any_next (λ j. eqb (index perm j) k) i in
      let e : covered perm (i + 1) ≡ covered perm i + 1 =
      sum_to_one (λ k. bit (among perm i k)) (λ k. bit (among perm (i + 1) k)) (length perm) at (D.inside i h)
      (ap bit (fresh i h))
      (ap bit (any-hit _ (i + 1) i (omega arith) (eq-eqb at at refl)))
      (λ k l d. ap bit (step k ∙ ap (λ (b : Bool). among perm i k || b) (ne_eqb at k (λ q. d (sym q))) ∙ or-false (among perm i k))) in
      subst (λ (m : ℕ). covered perm m ≡ m) (add-one i) (e ∙ ap (λ (m : ℕ). m + 1) (covers i (omega arith)))

  onto : (k : ℕ) → k < length perm → (i : ℕ) × (i < length perm) × (index perm i ≡ k)
  onto k l = go (among perm (length perm) k) refl
    where
      go : (b : Bool) → among perm (length perm) k ≡ b → (i : ℕ) × (i < length perm) × (index perm i ≡ k)
      go true e = let f = any_found _ (length perm) e in (f.0, f.1, eqb-true _ _ f.2)
      go false e =
          let r = sum_to_room (λ j. bit (among perm (length perm) j)) (length perm) k l (ap bit e) (λ j _. bit_most (among perm (length perm) j)) in
          absurd (omega (arith, covers (length perm) (omega arith)))

  -- what passes is a permutation
  pub distinct_permutation : Permutation perm
  distinct_permutation = record {
    inside = D.inside;
    distinct = λ i j l m e. ordered i j l m e;
    onto = onto;
  }
    where
      ordered : (i j : ℕ) → i < length perm → j < length perm → index perm i ≡ index perm j → i ≡ j
      ordered i j l m e = elim (dec_lt i j) [
        | yes a ↦ absurd (D.once i j a m e)
        | no a ↦ elim (dec_lt j i) [ yes b ↦ absurd (D.once j i b l (sym e)) | no b ↦ omega arith ]
      ]

-- what passes 10, 11 and 7 is a permutation with room for it
pub accept_permutation : (perm : List ℕ) (room : ℕ) → Passed (accept_steps perm room) → Permutation perm × (length perm ≤ room)
accept_permutation perm room p = (
  distinct_permutation perm (passed_distinct perm (passed_front (permutation_steps perm) _ p)),
  ltb-false _ _ (passed_clear _ (passed_back (permutation_steps perm) (room_step perm room ∷ []) p)).0,
)

-- what passes the steps of the marked form: lists as long as the permutation, and outputs not shorter
pub marked_accepted : (perm : List ℕ) (input marks room marksRoom : ℕ) → Passed (marked_steps perm input marks room marksRoom) →
    (input ≡ length perm) × (marks ≡ length perm) × Permutation perm × (length perm ≤ room) × (length perm ≤ marksRoom)
marked_accepted perm input marks room marksRoom p =
    let lengths = long_step perm ∷ (1, ltb max_dimension input) ∷ (1, ltb max_dimension marks) ∷ (4, not (eqb input (length perm))) ∷ (4, not (eqb marks (length perm))) ∷ [] in
    let d = passed_clear lengths (passed_front lengths _ p) in
    let later = passed_back lengths (accept_steps perm room ++ room_step perm marksRoom ∷ []) p in
    let a = accept_permutation perm room (passed_front (accept_steps perm room) _ later) in
    let m = passed_clear _ (passed_back (accept_steps perm room) (room_step perm marksRoom ∷ []) later) in (
      eqb-true _ _ (not-false _ d.1.1.1.0),
      eqb-true _ _ (not-false _ d.1.1.1.1.0),
      a.0,
      a.1,
      ltb-false _ _ m.0,
    )

pub permutation_distinct : {perm : List ℕ} → Permutation perm → Distinct perm
permutation_distinct P = record {
  inside = P.inside;
  once = λ j i m l e. let q = P.distinct j i (omega arith) l e in omega arith;
}

-- ---- where an index stands

module _ {perm : List ℕ} (P : Permutation perm) where
  -- an element stands at its own place
  pub place_of_index : (i : ℕ) → i < length perm → index_place perm (index perm i) ≡ i
  place_of_index i l =
      place_from_at perm (index perm i) 0 (length perm) i (omega arith) (omega arith) refl
      (λ j a b e. let q = P.distinct j i (omega arith) l e in omega arith)

  -- and there is an element at an index's place
  pub index_place_of : (k : ℕ) → k < length perm → (index_place perm k < length perm) × (index perm (index_place perm k) ≡ k)
  index_place_of k l =
      let w = P.onto k l in
      let q : index_place perm k ≡ w.0 = ap (index_place perm) (sym w.2) ∙ place_of_index w.0 w.1 in
      (subst (λ (m : ℕ). m < length perm) (sym q) w.1, ap (index perm) q ∙ w.2)

-- ---- the inverse

pub inverse_of-length : (perm : List ℕ) → length (inverse_of perm) ≡ length perm
unfolding inverse_of
inverse_of-length perm = tabulate-length (index_place perm) (length perm)

pub inverse_of_at : (perm : List ℕ) (k : ℕ) → k < length perm → index (inverse_of perm) k ≡ index_place perm k
unfolding inverse_of
inverse_of_at perm k l = tabulate_at (index_place perm) (length perm) k 0 l

module _ {perm : List ℕ} (P : Permutation perm) where
  -- the inverse list undoes the permutation
  pub inverse_undoes : (i : ℕ) → i < length perm → index (inverse_of perm) (index perm i) ≡ i
  inverse_undoes i l = inverse_of_at perm (index perm i) (P.inside i l) ∙ place_of_index P i l

  -- and the permutation the inverse list
  pub inverse_undone : (k : ℕ) → k < length perm → index perm (index (inverse_of perm) k) ≡ k
  inverse_undone k l = ap (index perm) (inverse_of_at perm k l) ∙ (index_place_of P k l).1

  inverse_inside : (k : ℕ) → k < length perm → index (inverse_of perm) k < length perm
  inverse_inside k l = subst (λ (m : ℕ). m < length perm) (sym (inverse_of_at perm k l)) (index_place_of P k l).0

  -- the inverse list is a permutation
  pub inverse_permutation : Permutation (inverse_of perm)
  inverse_permutation = record {
    inside = λ k l. subst (λ (n : ℕ). index (inverse_of perm) k < n) (sym (inverse_of-length perm)) (inverse_inside k (down k l));
    distinct = λ i j l m e. sym (inverse_undone i (down i l)) ∙ ap (index perm) e ∙ inverse_undone j (down j m);
    onto = λ i l. (index perm i, subst (λ (n : ℕ). index perm i < n) (sym (inverse_of-length perm)) (P.inside i (down i l)), inverse_undoes i (down i l));
  }
    where
      down : (k : ℕ) → k < length (inverse_of perm) → k < length perm
      down k l = subst (λ (n : ℕ). k < n) (inverse_of-length perm) l

  -- the only list of its length that leads back
  pub inverse-unique : (inv : List ℕ) → length inv ≡ length perm → ((i : ℕ) → i < length perm → index inv (index perm i) ≡ i) → inv ≡ inverse_of perm
  inverse-unique inv e back =
      ext_get_or 0 inv (inverse_of perm) (e ∙ sym (inverse_of-length perm))
      (λ k l.
      let l' : k < length perm = subst (λ (n : ℕ). k < n) e l in
      ap (index inv) (sym (inverse_undone k l')) ∙ back (index (inverse_of perm) k) (inverse_inside k l'))

-- the inverse's inverse is the permutation
pub inverse_involutive : {perm : List ℕ} → Permutation perm → inverse_of (inverse_of perm) ≡ perm
inverse_involutive {perm} P =
    sym
    (inverse-unique (inverse_permutation P) perm (sym (inverse_of-length perm))
    (λ k l. inverse_undone P k (subst (λ (n : ℕ). k < n) (inverse_of-length perm) l)))

-- ---- `validate` accepts exactly a permutation with its inverse

pub validated : (perm inv : List ℕ) → Passed (each (λ i. index_steps perm i ++ inverse_steps perm inv i) (length perm)) → length perm ≡ length inv → Permutation perm × (inv ≡ inverse_of perm)
validated perm inv p e = (P, inverse-unique P inv (sym e) (λ i l. eqb-true _ _ (not-false _ (both i l).1.1.0)))
  where
    both : (i : ℕ) → i < length perm → Clear (index_steps perm i ++ inverse_steps perm inv i)
    both i l = passed_clear _ (each_passed (λ i. index_steps perm i ++ inverse_steps perm inv i) (length perm) i p l)

    P : Permutation perm
    P =
        distinct_permutation perm
        (passed_distinct perm
        (passed_each (index_steps perm) (length perm) (λ i l. clear_passed (index_steps perm i) ((both i l).0, ((both i l).1.0, tt)))))

pub validates : {perm : List ℕ} → Permutation perm → Passed (each (λ i. index_steps perm i ++ inverse_steps perm (inverse_of perm) i) (length perm))
validates {perm} P =
    passed_each (λ i. index_steps perm i ++ inverse_steps perm (inverse_of perm) i) (length perm)
    (λ i l.
    passed_append (index_steps perm i) (inverse_steps perm (inverse_of perm) i)
    (each_passed (index_steps perm) (length perm) i (distinct_passed perm (permutation_distinct P)) l)
    (clear_passed (inverse_steps perm (inverse_of perm) i) (ap not (eq-eqb _ _ (inverse_undoes P i l)), tt)))

-- ---- reordering

module _ {A : Type 0} (blank : A) where
  pub reordered-length : (perm : List ℕ) (input : List A) → length (reordered blank perm input) ≡ length perm
  unfolding reordered
  reordered-length perm input = tabulate-length _ (length perm)

  -- element i is that of the cell at perm i: of values and of marks alike
  pub reordered_at : (perm : List ℕ) (input : List A) (i : ℕ) → i < length perm → get_or (reordered blank perm input) i blank ≡ get_or input (index perm i) blank
  unfolding reordered
  reordered_at perm input i l = tabulate_at _ (length perm) i blank l

  module _ {perm : List ℕ} (P : Permutation perm) (input : List A) (e : length input ≡ length perm) where
    -- reordering by the inverse undoes reordering
    pub reordered_undoes : reordered blank (inverse_of perm) (reordered blank perm input) ≡ input
    reordered_undoes =
        ext_get_or blank _ input (reordered-length (inverse_of perm) (reordered blank perm input) ∙ inverse_of-length perm ∙ sym e)
        (λ k l.
        let m : k < length (inverse_of perm) = subst (λ (n : ℕ). k < n) (reordered-length (inverse_of perm) (reordered blank perm input)) l in
        let l' : k < length perm = subst (λ (n : ℕ). k < n) (inverse_of-length perm) m in
        reordered_at (inverse_of perm) (reordered blank perm input) k m
        ∙ reordered_at perm input (index (inverse_of perm) k) (inverse_inside P k l')
        ∙ ap (λ (i : ℕ). get_or input i blank) (inverse_undone P k l'))

  -- and the other way round
  pub reordered_undone : {perm : List ℕ} → Permutation perm → (input : List A) → length input ≡ length perm → reordered blank perm (reordered blank (inverse_of perm) input) ≡ input
  reordered_undone {perm} P input e =
      ap (λ (l : List ℕ). reordered blank l (reordered blank (inverse_of perm) input)) (sym (inverse_involutive P))
      ∙ reordered_undoes (inverse_permutation P) input (e ∙ sym (inverse_of-length perm))

pub stored_to_none : (perm old : List ℕ) → old ≡ stored_to perm old 0
unfolding stored_to
stored_to_none perm old = refl

pub stored_to_more : (perm old : List ℕ) (i : ℕ) → set (stored_to perm old i) (index perm i) i ≡ stored_to perm old (i + 1)
unfolding stored_to
stored_to_more perm old i = rw add-one

pub stored_to-length : (perm old : List ℕ) (i : ℕ) → length (stored_to perm old i) ≡ length old
unfolding stored_to
stored_to-length perm old zero = refl
stored_to-length perm old (suc i) = length-set (stored_to perm old i) (index perm i) i ∙ stored_to-length perm old i

module _ {perm : List ℕ} (P : Permutation perm) (old : List ℕ) (room : length perm ≤ length old) where
  -- an index's store stands
  stored_at : (m i : ℕ) → m ≤ length perm → i < m → index (stored_to perm old m) (index perm i) ≡ i
  unfolding stored_to
  stored_at zero i h l = absurd (not-suc-le-zero l)
  stored_at (suc m) i h l =
      ⊎_elim
      (λ q.
      ap (index (set (stored_to perm old m) (index perm m) m)) (ap (index perm) q)
      ∙ get_or-set_same (stored_to perm old m) (index perm m) m 0 (omega (arith, stored_to-length perm old m, P.inside m h)) ∙ sym q)
      (λ q.
      get_or-set_other (stored_to perm old m) (index perm m) (index perm i) m 0 (λ e. let d = P.distinct i m (omega arith) h e in absurd (omega arith))
      ∙ stored_at m i (omega arith) q)
      (eq-or-lt_of_le (le_of_suc-le-suc l))

  -- places past the permutation keep theirs
  stored_past : (m k : ℕ) → m ≤ length perm → length perm ≤ k → index (stored_to perm old m) k ≡ index old k
  unfolding stored_to
  stored_past zero k h l = refl
  stored_past (suc m) k h l =
      get_or-set_other (stored_to perm old m) (index perm m) k m 0 (λ e. let d = P.inside m h in absurd (omega arith)) ∙ stored_past m k (omega arith) l

  -- after all stores the list begins with the inverse
  pub stored_inverse : stored_to perm old (length perm) ≡ overwrite (inverse_of perm) old
  stored_inverse =
      ext_get_or 0 _ _
      (stored_to-length perm old (length perm) ∙ sym (overwrite-length (inverse_of perm) old (omega (arith, inverse_of-length perm))))
      (λ k l. elim (dec_lt k (length perm)) [
        | yes a ↦
            ap (index (stored_to perm old (length perm))) (sym (index_place_of P k a).1)
            ∙ stored_at (length perm) (index_place perm k) (omega arith) (index_place_of P k a).0
            ∙ sym (overwrite_at (inverse_of perm) old k 0 (omega (arith, inverse_of-length perm)) ∙ inverse_of_at perm k a)
        | no a ↦
            stored_past (length perm) k (omega arith) (omega arith)
            ∙ sym (overwrite_past (inverse_of perm) old k 0 (omega (arith, inverse_of-length perm)))
      ])
