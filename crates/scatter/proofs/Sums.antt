-- Laws of specs/Sums.antt.
use Rattle.std.specs.Prelude.{◌≡◌, List, [], ◌∷◌, get_or, set, take}
use Rattle.std.proofs.Math.Path.{refl, sym, ap, ap₂}
use Rattle.std.proofs.Common.{◌∙◌, subst, inl, inr, eq-or-lt_of_le, le_refl, le_of_lt, le_trans, ne_of_lt, ne_of_gt, lt_of_lt_of_le, le_of_suc-le-suc, add-one, arith, length-set, get_or-set_same, get_or-set_other}
use Prim.Native.Nat.{ℕ, zero, suc, ◌+◌, ◌≤◌, ◌<◌}
use Rattle.std.proofs.Math.Nat.{suc_inj}
use Rattle.std.proofs.Math.ListN.{length}
use Rattle.std.proofs.Math.Seq.{take-length}
use Rattle.refusal.specs.Bounds.{max_dimension}
use Rattle.takahashi.specs.Recurrence.{Arithmetic, Entry, run, at}
use Rattle.takahashi.proofs.Recurrence.{at_sym, at_lower}
use Rattle.scatter.specs.Scatter.{blank, row_at, entry_value, terms, terms_at, Between}
use Rattle.scatter.specs.Sums.{Walking}

-- the running sum over one entry more
pub run_take : (A : Arithmetic) (d : Entry A.Carrier) (r : ℕ → A.Carrier) (acc : A.Carrier) (ds : List (Entry A.Carrier)) (t : ℕ) → t < length ds
    → run A r acc (take (suc t) ds) ≡ A.plus (run A r acc (take t ds)) (A.times (get_or ds t d).value (r (get_or ds t d).row))
run_take A d r acc [] t h = absurd (omega arith)
run_take A d r acc (e ∷ ds) zero h = refl
run_take A d r acc (e ∷ ds) (suc t) h = run_take A d r (A.plus acc (A.times e.value (r e.row))) ds t (omega arith)

module _ (A : Arithmetic) (none : A.Carrier) (Z : ℕ → ℕ → A.Carrier) (rows : List ℕ) (b : ℕ) (weights : List A.Carrier) where
  -- all terms are the recurrence's sum
  pub terms_run : (ds : List (Entry A.Carrier)) → ((p : ℕ) → p < length ds → get_or rows (b + p) 0 ≡ row_at none ds p)
      → ((p : ℕ) → p < length ds → get_or weights p none ≡ entry_value none ds p) → (i : ℕ)
      → terms A none Z rows b weights i (length ds) ≡ run A (λ k. at Z i k) A.zero ds
  unfolding terms
  terms_run ds er ew i = go (length ds) (le_refl (length ds)) ∙ ap (run A (λ k. at Z i k) A.zero) (take-length ds)
    where
      go : (t : ℕ) → t ≤ length ds → terms A none Z rows b weights i t ≡ run A (λ k. at Z i k) A.zero (take t ds)
      go zero h = refl
      go (suc t) h =
          ap₂ (λ (x y : A.Carrier). A.plus x y) (go t (le_of_lt h)) (ap₂ (λ (x : A.Carrier) (k : ℕ). A.times x (at Z i k)) (ew t h) (er t h))
          ∙ sym (run_take A (blank none) (λ k. at Z i k) A.zero ds t h)

  module _ (m : ℕ) where
    -- one term more, that of the descendant at t
    pub terms_next : (p t : ℕ) (x l z : A.Carrier) → x ≡ terms_at A none Z rows b m weights p t → l ≡ get_or weights t none
        → z ≡ at Z (get_or rows (b + p) 0) (get_or rows (b + t) 0) → A.plus x (A.times l z) ≡ terms_at A none Z rows b m weights p (t + 1)
    unfolding terms
    terms_next p t x l z ex el ez =
        ap₂ (λ (u v : A.Carrier). A.plus u v) ex (ap₂ (λ (u v : A.Carrier). A.times u v) el ez)
        ∙ ap (λ (k : ℕ). terms A none Z rows b weights (get_or rows (b + p) 0) k) (sym (add-one t))

    pub walking_enter : (c d : ℕ) (s : List A.Carrier) → c ≤ d → Between A none Z rows b m weights c s → (Walking A none Z rows b weights m) c d d s
    walking_enter c d s h B = record {
      long = B.long;
      done = B.done;
      over = λ p l u. absurd (omega arith);
      rest = λ p l u. B.rest p (le_trans h l) u;
    }

    -- the sum at t gets its terms of the columns
    pub walking_met : (c d t : ℕ) (s : List A.Carrier) (x : A.Carrier) → c ≤ d → d ≤ t → t < max_dimension → x ≡ terms_at A none Z rows b m weights t d
        → (Walking A none Z rows b weights m) c d t s → (Walking A none Z rows b weights m) c d (t + 1) (set s t x)
    walking_met c d t s x cd dt tm e W = record {
      long = length-set s t x ∙ W.long;
      done = λ p h. get_or-set_other s t p x none (ne_of_lt (lt_of_lt_of_le h (le_trans cd dt))) ∙ W.done p h;
      over = λ p l u. elim (eq-or-lt_of_le (subst (λ (k : ℕ). p < k) (add-one t) u)) [
        | inl q ↦ subst (λ (k : ℕ). get_or (set s t x) k none ≡ terms_at A none Z rows b m weights k d) (sym (suc_inj q)) (same ∙ e)
        | inr g ↦ get_or-set_other s t p x none (ne_of_lt (le_of_suc-le-suc g)) ∙ W.over p l (le_of_suc-le-suc g)
      ];
      rest = λ p l u. let g : t < p = omega arith in get_or-set_other s t p x none (ne_of_gt g) ∙ W.rest p (le_of_lt g) u;
    }
      where
        same : get_or (set s t x) t none ≡ x
        same = get_or-set_same s t x none (subst (λ (k : ℕ). t < k) (sym W.long) tm)

    -- a held sum put back
    pub walking_back : (c d : ℕ) (s : List A.Carrier) (x : A.Carrier) → c < d → c < max_dimension → x ≡ terms_at A none Z rows b m weights c m
        → (Walking A none Z rows b weights m) c d m s → (Walking A none Z rows b weights m) (c + 1) d m (set s c x)
    walking_back c d s x cd cm e W = record {
      long = length-set s c x ∙ W.long;
      done = λ p h. elim (eq-or-lt_of_le (subst (λ (k : ℕ). p < k) (add-one c) h)) [
        | inl q ↦ subst (λ (k : ℕ). get_or (set s c x) k none ≡ terms_at A none Z rows b m weights k m) (sym (suc_inj q)) (same ∙ e)
        | inr g ↦ get_or-set_other s c p x none (ne_of_lt (le_of_suc-le-suc g)) ∙ W.done p (le_of_suc-le-suc g)
      ];
      over = λ p l u. get_or-set_other s c p x none (ne_of_gt (lt_of_lt_of_le cd l)) ∙ W.over p l u;
      rest = λ p l u. absurd (omega arith);
    }
      where
        same : get_or (set s c x) c none ≡ x
        same = get_or-set_same s c x none (subst (λ (k : ℕ). c < k) (sym W.long) cm)

    pub walking_leave : (d : ℕ) (s : List A.Carrier) → (Walking A none Z rows b weights m) d d m s → Between A none Z rows b m weights d s
    walking_leave d s W = record { long = W.long; done = W.done; rest = W.over }

-- a table's entry at either order
pub at_below : {W : Type 0} (Z : ℕ → ℕ → W) (i k : ℕ) (z : W) → k ≤ i → z ≡ Z i k → z ≡ at Z i k
at_below Z i k z h e = e ∙ sym (at_lower Z i k h)

pub at_above : {W : Type 0} (Z : ℕ → ℕ → W) (i k : ℕ) (z : W) → i ≤ k → z ≡ Z k i → z ≡ at Z i k
at_above Z i k z h e = e ∙ sym (at_lower Z k i h) ∙ at_sym Z k i
