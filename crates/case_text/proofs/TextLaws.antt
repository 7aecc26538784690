-- Laws of what stands in a text from a place on: a place more, and the end.
-- Assumes nothing.
use Prim.Native.Nat.{ℕ, zero, suc, ◌+◌, ◌-◌, ◌≤◌, ◌<◌, min, max}
use native.Mathlib.Omega.{arith}
use mathlib.Core.Path.{◌≡◌, refl, sym, ap, ◌∙◌}
use mathlib.Core.Bool.{Bool, true, false, not, cond}
use lib.Dec.{ltb, leb, eqb}
use mathlib.Core.Logic.{⊎_elim}
use Rattle.std.specs.Ordering.{ord_max, ord_min, nat_cmp, is_lt}
use Rattle.std.specs.declared.cmp.Ordering.TheVariants.{Less, Equal, Greater}
use Rattle.std.proofs.lemmas.Bool.{cases_lt, ltb-true, ltb-false, not-false, not-true, eqb-true}
use Rattle.std.proofs.lemmas.List.{get_or-take, length-take-le, length-take}
use Rattle.std.proofs.Common.{ext_get_or}
use Rattle.std.proofs.Math.Seq.{get_or-drop, take-length}
use Rattle.std.specs.List.{slice_range}
use lib.Pointwise.{pointwise, bytes_decides}
use mathlib.Core.List.{List}
use lib.ListN.{length, get_or, take, drop, length-drop}
use borrow.Author.Tests.{le-leb, lt-leb, leb-true, eq-eqb}
use Rattle.lists.specs.Test.{any, any-hit, any_all, any_below, and_left, and_right, same_truth}
use Rattle.case_text.specs.Text.{past_run, digit_of, digit_at, digit_more, number_from, differs, begins, first_from}

-- the larger of two, and the smaller, as `max` and `min` pick them
pub larger : (p e : ℕ) → ord_max nat_cmp p e ≡ max p e
larger p e = go (ltb e p) (eqb e p) (ltb-true e p) (ltb-false e p)
  where
    go : (a b : Bool) → (a ≡ true → e < p) → (a ≡ false → p ≤ e) → cond (is_lt (cond a Less (cond b Equal Greater))) p e ≡ max p e
    go true b f g = let w = f refl in omega arith
    go false true f g = let w = g refl in omega arith
    go false false f g = let w = g refl in omega arith

pub smaller : (p e : ℕ) → ord_min nat_cmp p e ≡ min p e
smaller p e = go (ltb e p) (eqb e p) (ltb-true e p) (ltb-false e p)
  where
    go : (a b : Bool) → (a ≡ true → e < p) → (a ≡ false → p ≤ e) → cond (is_lt (cond a Less (cond b Equal Greater))) e p ≡ min p e
    go true b f g = let w = f refl in omega arith
    go false true f g = let w = g refl in omega arith
    go false false f g = let w = g refl in omega arith

module _ (test : ℕ → Bool) where
  pub past_run_end : (p e : ℕ) → e ≤ p → past_run test p (e - p) ≡ p
  unfolding past_run
  past_run_end p e h = let z : e - p ≡ 0 = omega arith in ap (past_run test p) z

  pub past_run_stop : (p k : ℕ) → test p ≡ false → past_run test p k ≡ p
  unfolding past_run
  past_run_stop p zero h = refl
  past_run_stop p (suc k) h = rw h

  pub past_run_more : (p e : ℕ) → p < e → test p ≡ true → past_run test p (e - p) ≡ past_run test (p + 1) (e - (p + 1))
  unfolding past_run
  past_run_more p e l h =
      let z : e - p ≡ suc (e - (p + 1)) = omega arith in
      ap (past_run test p) z ∙ rw h

  -- the test holds from p to the end e, or p is behind it
  pub past_run_all : (p e i m : ℕ) → e ≤ i → (p ≤ e → i ≤ e) → m ≡ ord_max nat_cmp p e → past_run test p (e - p) ≡ past_run test i (e - i) → m ≡ past_run test p (e - p)
  past_run_all p e i m l h q k = ⊎_elim
      (λ w. let z : m ≡ p = q ∙ larger p e ∙ omega arith in z ∙ sym (past_run_end p e (omega arith)))
      (λ w. let u = h w in let z : m ≡ i = q ∙ larger p e ∙ omega arith in z ∙ sym (k ∙ past_run_end i e l))
      (cases_lt e p)

module _ (base : ℕ) (text : List ℕ) (x : ℕ) where
  pub number_from_end : (p e : ℕ) → e ≤ p → number_from base text x p (e - p) ≡ x
  unfolding number_from
  number_from_end p e h = let z : e - p ≡ 0 = omega arith in ap (number_from base text x p) z

  pub number_from_stop : (p k : ℕ) → digit_at base text p ≡ false → number_from base text x p k ≡ x
  unfolding number_from
  number_from_stop p zero h = refl
  number_from_stop p (suc k) h = rw h

  pub number_from_more : (p e : ℕ) → p < e → digit_at base text p ≡ true →
      number_from base text x p (e - p) ≡ number_from base text (digit_more base x (digit_of (get_or text p 0))) (p + 1) (e - (p + 1))
  unfolding number_from
  number_from_more p e l h =
      let z : e - p ≡ suc (e - (p + 1)) = omega arith in
      ap (number_from base text x p) z ∙ rw h

-- ---- laws of a label
pub begins_short : (text : List ℕ) (p : ℕ) (label : List ℕ) → length text < p + length label → false ≡ begins text p label
unfolding begins
begins_short text p label h = rw (lt-leb (p + length label) (length text) h)

pub begins_differs : (text : List ℕ) (p : ℕ) (label : List ℕ) (i : ℕ) → p + length label ≤ length text → i < length label →
    differs text p label i ≡ true → false ≡ begins text p label
unfolding begins
begins_differs text p label i h l d =
    rw (le-leb (p + length label) (length text) h, any-hit (differs text p label) (length label) i l d)

pub begins_same : (text : List ℕ) (p : ℕ) (label : List ℕ) → p + length label ≤ length text →
    any (differs text p label) (length label) ≡ false → true ≡ begins text p label
unfolding begins
begins_same text p label h d = rw (le-leb (p + length label) (length text) h, d)

pub begins_within : (text : List ℕ) (p : ℕ) (label : List ℕ) → begins text p label ≡ true → p + length label ≤ length text
unfolding begins
begins_within text p label e = leb-true (p + length label) (length text) (and_left _ _ e)

-- what stands from p on begins with the label
pub begins_starts : (text : List ℕ) (p : ℕ) (label rest : List ℕ) → p ≤ length text → rest ≡ slice_range text p (length text) →
    pointwise eqb label (take (length label) rest) ≡ begins text p label
unfolding begins
begins_starts text p label rest within part = same_truth _ _ there back
  where
    r : rest ≡ drop p text
    r = part ∙ ap (λ (n : ℕ). take n (drop p text)) (sym (length-drop p text)) ∙ take-length (drop p text)

    long : length rest ≡ length text - p
    long = ap length r ∙ length-drop p text

    here : (k : ℕ) → k < length label → get_or (take (length label) rest) k 0 ≡ get_or text (p + k) 0
    here k l = get_or-take (length label) rest k 0 l ∙ ap (λ (s : List ℕ). get_or s k 0) r ∙ get_or-drop p text k 0

    there : pointwise eqb label (take (length label) rest) ≡ true → begins text p label ≡ true
    there e =
        let q : label ≡ take (length label) rest = (bytes_decides label (take (length label) rest)).0 e in
        let n : length label ≡ min (length label) (length rest) = ap length q ∙ length-take (length label) rest in
        let fits : p + length label ≤ length text = omega (arith, long) in
        sym (begins_same text p label fits (any_all (differs text p label) (length label) (λ k l.
        ap not (eq-eqb _ _ (sym (here k l) ∙ ap (λ (s : List ℕ). get_or s k 0) (sym q))))))

    back : begins text p label ≡ true → pointwise eqb label (take (length label) rest) ≡ true
    back e =
        let fits : p + length label ≤ length text = begins_within text p label e in
        let none : any (differs text p label) (length label) ≡ false = not-true _ (and_right (leb (p + length label) (length text)) (not (any (differs text p label) (length label))) e) in
        let n : length (take (length label) rest) ≡ length label = length-take-le (length label) rest (omega (arith, long)) in
        (bytes_decides label (take (length label) rest)).1 (ext_get_or 0 label (take (length label) rest) (sym n) (λ k l.
        sym (here k l ∙ eqb-true _ _ (not-false _ (any_below (differs text p label) (length label) k none l)))))

-- ---- laws of the first place of a label
module _ (text label : List ℕ) where
  pub first_end : (p e : ℕ) → e ≤ p → first_from text label p (e - p) ≡ p
  unfolding first_from
  first_end p e h = let z : e - p ≡ 0 = omega arith in ap (first_from text label p) z

  pub first_found : (p e : ℕ) → p < e → begins text p label ≡ true → first_from text label p (e - p) ≡ p + length label
  unfolding first_from
  first_found p e l h =
      let z : e - p ≡ suc (e - (p + 1)) = omega arith in
      ap (first_from text label p) z ∙ rw h

  pub first_more : (p e : ℕ) → p < e → begins text p label ≡ false → first_from text label p (e - p) ≡ first_from text label (p + 1) (e - (p + 1))
  unfolding first_from
  first_more p e l h =
      let z : e - p ≡ suc (e - (p + 1)) = omega arith in
      ap (first_from text label p) z ∙ rw h

  -- the label stands nowhere from p to the end e, or p is behind it
  pub first_all : (p e i m : ℕ) → e ≤ i → (p ≤ e → i ≤ e) → m ≡ ord_max nat_cmp p e → first_from text label p (e - p) ≡ first_from text label i (e - i) → m ≡ first_from text label p (e - p)
  first_all p e i m l h q k = ⊎_elim
      (λ w. let z : m ≡ p = q ∙ larger p e ∙ omega arith in z ∙ sym (first_end p e (omega arith)))
      (λ w. let u = h w in let z : m ≡ i = q ∙ larger p e ∙ omega arith in z ∙ sym (k ∙ first_end i e l))
      (cases_lt e p)
