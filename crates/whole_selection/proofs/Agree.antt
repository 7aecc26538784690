-- Laws of specs/Agree.antt.
use Rattle.std.specs.Prelude.{ℕ, zero, suc, ◌+◌, ◌*◌, ◌≤◌, ◌<◌, ◌≡◌, refl, Bool, true, false, not, ◌&&◌, ◌||◌, List, [], ◌∷◌, map, T, eqb, ltb, leb, length, get_or, ℤ, pos, neg_ℤ, nat_abs, Float}
use Rattle.std.proofs.Common.{arith, zero-mul, sym, ap, ap₂, subst, ◌∙◌, eqb-true, ltb-true, leb-true, le-ltb}
use Rattle.std.proofs.lemmas.Bool.{false≢true, eqb-false, not-true}
use Rattle.std.proofs.Math.IntN.{pos-ne-negsuc}
use Rattle.std.specs.Float.{nan, inf, fin}
use Rattle.std.specs.Float.Ieee.{up, down, of_bits, ne, eq, lt, le}
use Rattle.std.specs.Float.Ieee.Scale.{finite}
use Rattle.std.specs.Float.Ieee.Fits.{down_pos}
use Rattle.lists.specs.Test.{and_left}
use Rattle.lists.specs.Select.{select_at, select_cong}
use Rattle.lists.specs.Sum.{sum_to_eq}
use Rattle.refusal.specs.Steps.{Passed}
use Rattle.refusal.proofs.Steps.{passed_append}
use Rattle.refusal.proofs.Groups.{passed_groups}
use Rattle.integers.proofs.Integer.{nat_abs_zero, *ℤ-idl, *ℤ-idr}
use Rattle.columns.specs.Columns.{factor_lists, start, row, value}
use Rattle.columns.specs.Kept.{f0, nonzero, entry, kept, kept_diagonal, kept_below, desc_places, pattern, kept_count, factor_pairs, diag, desc}
use Rattle.columns.specs.Factor.{Factor}
use Rattle.columns.specs.Stored.{FiniteEntries}
use Rattle.columns.proofs.Stored.{stored_steps_passed}
use Rattle.columns.specs.Diagonal.{Diagonal, Diagonals, diagonal_steps}
use Rattle.columns.proofs.Diagonal.{diagonal_steps_passed, kept_diagonal_row, diagonal_value}
use Rattle.columns.specs.WholeFactor.{not_zero, whole_value, whole_nonzero, whole_stored}
use Rattle.columns.proofs.WholeFactor.{one_is}
use Rattle.exact.specs.Multiple.{Whole, zero_float}
use Rattle.exact.proofs.Multiple.{multiple_zero, multiple_eq, eq_multiple}
use Rattle.exact.specs.Exact.{Alike}
use Rattle.selection.proofs.Diagnosis.{diagnosis_of_same, member_same}
use Rattle.selection.specs.Selection.{Selection, Room, room_steps, selected_answer, selected_set}
use Rattle.selection.specs.Call.{selection_of, selected_groups, selected_steps}
use Rattle.whole_selection.specs.Call.{WholeCall, WholeRoom, whole_requests, whole_descendants, whole_set, whole_answer, check_steps}
use Rattle.whole_selection.specs.Accepted.{WholeAccepted}
use Rattle.whole_selection.proofs.Accepted.{checks_passed}
use Rattle.whole_selection.specs.ReadBack.{whole_entries}
use Rattle.whole_selection.specs.Agree.{SameNumbers, float_call}

-- ---- a float that is a whole number is 0.0 exactly if the number is 0
zero_is : f0 ≡ zero_float
unfolding of_bits
zero_is = refl

tells : (b : Bool) → T b → b ≡ true
tells true t = refl
tells false t = absurd t

told : (b : Bool) → b ≡ true → T b
told true e = tt
told false e = absurd (false≢true e)

whole_nonzero_lem : (v : Float) (z : ℤ) → Whole v z → ne v f0 ≡ not_zero z
unfolding ne
whole_nonzero_lem v z w = ap not (by_size (eqb (nat_abs z) 0) refl)
  where
    by_size : (b : Bool) → eqb (nat_abs z) 0 ≡ b → eq v f0 ≡ b
    by_size true e =
        let zero : z ≡ pos 0 = nat_abs_zero z (eqb-true (nat_abs z) 0 e) in
        ap (eq v) zero_is ∙ tells _ (multiple_eq 0 v zero_float (pos 0) (subst (Whole v) zero w) (multiple_zero 0))
    by_size false e = differs (eq v f0) refl
      where
        differs : (b : Bool) → eq v f0 ≡ b → b ≡ false
        differs false p = refl
        differs true p =
            let zero = eq_multiple 0 v zero_float z (pos 0) w (multiple_zero 0) (told _ (sym (ap (eq v) zero_is) ∙ p)) in
            absurd (eqb-false (nat_abs z) 0 e (ap nat_abs zero))

-- ---- a float that is a whole number is finite; one that is 1 is above 0.0
whole_finite : (v : Float) (z : ℤ) → Whole v z → finite v ≡ true
whole_finite nan z w = absurd w
whole_finite (inf t) z w = absurd w
whole_finite (fin t k e) z w = refl

not-minus : (m d : ℕ) → 0 < d → neg_ℤ (pos m) ≡ pos d → ⊥
not-minus zero d h e = let q : 0 ≡ d = ap nat_abs e in omega (arith, q)
not-minus (suc m) d h e = pos-ne-negsuc d m (sym e)

one_above : (v : Float) → Whole v (pos 1) → lt v zero_float ≡ false
unfolding lt
one_above nan w = absurd w
one_above (inf t) w = absurd w
one_above (fin true k e) w = absurd (not-minus (k * up e) (down e) (down_pos e) (sym (*ℤ-idr (neg_ℤ (pos (k * up e)))) ∙ w ∙ *ℤ-idl (pos (down e))))
one_above (fin false k e) w =
    let z : 0 * up (pos 0) * down e ≡ 0 = ap (λ (n : ℕ). n * down e) (zero-mul (up (pos 0))) ∙ zero-mul (down e) in
    le-ltb (k * up e * down (pos 0)) (0 * up (pos 0) * down e) (omega (arith, z))

one_positive : (v : Float) → Whole v (pos 1) → le v f0 ≡ false
unfolding le ne
one_positive v w = ap₂ ◌||◌ (ap (lt v) zero_is ∙ one_above v w) (not-true (eq v f0) (whole_nonzero_lem v (pos 1) w))

-- ---- lists of entries made from the same places
alike_places : (rows : List ℕ) (floats : List Float) (wholes : List ℤ) (l : List ℕ)
    → ((i : ℕ) → i < length l → Whole (value floats (get_or l i 0)) (whole_value wholes (get_or l i 0)))
    → Alike 0 (map (entry rows floats) l) (map (whole_stored rows wholes) l)
alike_places rows floats wholes [] h = tt
alike_places rows floats wholes (p ∷ l) h = (refl, h 0 (omega arith), alike_places rows floats wholes l (λ i m. h (suc i) (omega arith)))

-- ---- a call in whole numbers and its factor in f64
module _ (x : WholeCall) (lengths : WholeRoom) (A : WholeAccepted x lengths) (values : List Float) (same : SameNumbers x values) where
  abbrev n : ℕ
  n = x.factor.n

  abbrev starts : List ℕ
  starts = x.factor.starts

  abbrev rows : List ℕ
  rows = x.factor.rows

  abbrev nf : ℕ → Bool
  nf = nonzero values

  abbrev nw : ℕ → Bool
  nw = whole_nonzero x.factor.values

  abbrev f : Selection
  f = selection_of (float_call x values)

  -- an entry that is not above the diagonal is dropped in both or in neither
  same_test : (c p : ℕ) → c < n → start starts c ≤ p → p < start starts (c + 1) → (b : Bool) → (b ≡ true → c ≤ row rows p) → (b && nf p) ≡ (b && nw p)
  same_test c p h lo hi true below = whole_nonzero_lem (value values p) (whole_value x.factor.values p) (same c p h lo hi (below refl))
  same_test c p h lo hi false below = refl

  same_kept : (c p : ℕ) → c < n → start starts c ≤ p → p < start starts (c + 1) → kept_diagonal rows nf c p ≡ kept_diagonal rows nw c p
  same_kept c p h lo hi = same_test c p h lo hi (eqb (row rows p) c) (λ e. omega (arith, eqb-true (row rows p) c e))

  module _ (c : ℕ) (h : c < n) where
    same_places : desc_places starts rows nf c ≡ desc_places starts rows nw c
    same_places =
        select_cong (kept_below rows nf c) (kept_below rows nw c) (start starts c) (start starts (c + 1))
        (λ p lo hi. same_test c p h lo hi (ltb c (row rows p)) (λ e. let l = ltb-true c (row rows p) e in omega arith))

    same_pattern : pattern starts rows nf c ≡ whole_descendants x c
    same_pattern = ap (map (row rows)) same_places

    same_count : kept_count starts rows nf c ≡ kept_count starts rows nw c
    same_count =
        ap length
        (select_cong (kept rows nf c) (kept rows nw c) (start starts c) (start starts (c + 1))
        (λ p lo hi. same_test c p h lo hi (leb c (row rows p)) (λ e. leb-true c (row rows p) e)))

    pub same_entries : Alike 0 (desc starts rows values c) (whole_entries x c)
    same_entries =
        subst (λ (l : List ℕ). Alike 0 (map (entry rows values) l) (whole_entries x c)) (sym same_places)
        (alike_places rows values x.factor.values (desc_places starts rows nw c)
        (λ i l.
        let u = select_at (kept_below rows nw c) (start starts c) (start starts (c + 1)) i (A.factor.starts_rise.rising c h) l in
        let p = get_or (desc_places starts rows nw c) i 0 in
        let k = ltb-true c (row rows p) (and_left (ltb c (row rows p)) (nw p) u.passes) in
        same c p h u.from u.below (omega arith)))

    pub same_diagonal : Diagonal starts rows nf c → Whole (diag starts rows values c) (pos 1)
    same_diagonal D =
        let E = A.units.diagonal c h in
        let r = kept_diagonal_row rows nf c D.place D.kept in
        let w = same c D.place h D.from D.below (omega arith) in
        let k : kept_diagonal rows nw c D.place ≡ true = sym (same_kept c D.place h D.from D.below) ∙ D.kept in
        let q : D.place ≡ E.place = E.only D.place D.from D.below k in
        subst (λ (v : Float). Whole v (pos 1)) (sym (diagonal_value values D))
        (subst (Whole (value values D.place)) (ap (whole_value x.factor.values) q ∙ one_is _ (A.units.unit c h)) w)

    float_diagonal : Diagonal starts rows nf c
    float_diagonal =
        let E = A.units.diagonal c h in
        record {
          place = E.place;
          from = E.from;
          below = E.below;
          kept = same_kept c E.place h E.from E.below ∙ E.kept;
          only = λ q lo hi t. E.only q lo hi (sym (same_kept c q h lo hi) ∙ t);
        }

  same_pairs_lem : factor_pairs starts rows nf n ≡ factor_pairs starts rows nw n
  unfolding factor_pairs
  same_pairs_lem = sum_to_eq (kept_count starts rows nf) (kept_count starts rows nw) n same_count

  -- the answers are the same: status and counts
  pub same_diagnosis : selected_answer f ≡ whole_answer x
  same_diagnosis = diagnosis_of_same n (pattern starts rows nf) (whole_descendants x) same_pattern (whole_requests x) x.limit same_pairs_lem

  -- and so are the sets
  pub same_set : (r c : ℕ) → c ≤ r → r < n → selected_set f r c ≡ whole_set x r c
  same_set = member_same n (pattern starts rows nf) (whole_descendants x) same_pattern (whole_requests x)

  -- ---- selected entries accepts these floats where it has room: neither 18 nor 6 refuses them
  module _ (long : length values ≡ length x.factor.values) (passed : Passed (check_steps x lengths)) (room : Room)
      (enough : Passed (room_steps n x.limit room)) where
    float_factor : Factor n starts rows (length values)
    float_factor = subst (Factor n starts rows) (sym long) A.factor

    float_finite : FiniteEntries n starts rows values
    float_finite = record {
      finite_kept = λ c p h lo hi k. whole_finite (value values p) _ (same c p h lo hi (leb-true c (row rows p) (and_left (leb c (row rows p)) (nf p) k)));
    }

    float_diagonals : Diagonals n starts rows values
    float_diagonals = record { diagonal = float_diagonal; positive = λ c h. one_positive (diag starts rows values c) (same_diagonal c h (float_diagonal c h)) }

    pub float_passed : Passed (selected_steps (float_call x values) room)
    unfolding selected_steps
    float_passed =
        let G = checks_passed x lengths passed in
        passed_groups (selected_groups (float_call x values) room) (
          G.0,
          (
            stored_steps_passed (factor_lists n starts rows values) float_factor float_finite,
            (
              G.1.1.0,
              (
                passed_append (diagonal_steps (factor_lists n starts rows values)) (room_steps n x.limit room)
                    (diagonal_steps_passed n starts rows values float_diagonals) enough,
                tt,
              ),
            ),
          ),
        )
