-- One element of a permutation's check, and what the loop over the elements keeps.
-- Assumes nothing.
use Prim.Native.Nat.{ℕ, ◌+◌, ◌≤◌, ◌<◌}
use native.Mathlib.Omega.{arith}
use native.Mathlib.Decide.{ℕ_discrete}
use mathlib.Core.Path.{◌≡◌, refl, sym, ap, ◌∙◌}
use mathlib.Core.Bool.{Bool, true, false, not, cond, ◌&&◌, ◌||◌, or-true, or-false, false≢true}
use mathlib.Core.List.{List, []}
use lib.Dec.{eqb}
use lib.ListN.{length, get_or, set, length-set, replicate, get_or-replicate}
use lib.Seq.{get_or-set_same, get_or-set_other}
use borrow.Author.Tests.{le-leb, lt-leb, eq-eqb, ne_eqb}
use Rattle.lists.specs.Test.{any_none, any_next}
use Rattle.refusal.specs.Bounds.{max_dimension}
use Rattle.refusal.specs.Steps.{refused, each, verdict, Passed}
use Rattle.refusal.proofs.Steps.{first_hit, first_skip, first_end, each_none, each_more}
use Rattle.factor_order.specs.Permutation.{index, among, inverse_steps, element_steps}

-- before element i: no fault so far, and the indices seen are marked
pub record ElementsChecked (compared : Bool) (perm inv : List ℕ) (i : ℕ) (seen : List Bool) : Type 0 where
  pub long : length seen ≡ max_dimension
  pub passed : Passed (each (element_steps compared perm inv) i)
  pub marked : (k : ℕ) → k < max_dimension → get_or seen k false ≡ among perm i k

pub looked_none : (compared : Bool) (perm inv : List ℕ) → ElementsChecked compared perm inv 0 (replicate max_dimension false)
looked_none compared perm inv = record {
  long = refl;
  passed = each_none (element_steps compared perm inv);
  marked = λ k l. get_or-replicate max_dimension k false false l ∙ sym (any_none _);
}

module _ (compared : Bool) (perm inv : List ℕ) (i : ℕ) (seen : List Bool) (L : ElementsChecked compared perm inv i seen) where
  pub element_large : length perm ≤ index perm i → verdict (element_steps compared perm inv i) ≡ refused 10
  element_large h = first_hit 10 _ tt (le-leb _ _ h)

  module _ (p : ℕ) (e : p ≡ index perm i) (h : index perm i < length perm) (small : length perm ≤ max_dimension) where
    mark_is : get_or seen p false ≡ among perm i (index perm i)
    mark_is = ap (λ (k : ℕ). get_or seen k false) e ∙ L.marked (index perm i) (omega arith)

    pub element_repeated : get_or seen p false ≡ true → verdict (element_steps compared perm inv i) ≡ refused 11
    element_repeated q = first_skip 10 _ tt (lt-leb _ _ h) (first_hit 11 _ tt (sym mark_is ∙ q))

    module _ (fresh : get_or seen p false ≡ false) where
      pub element_disagrees : (compared && not (eqb (index inv p) i)) ≡ true → verdict (element_steps compared perm inv i) ≡ refused 12
      element_disagrees q = first_skip 10 _ tt (lt-leb _ _ h) (first_skip 11 _ tt (sym mark_is ∙ fresh) (go compared q))
        where
          go : (b : Bool) → (b && not (eqb (index inv p) i)) ≡ true → verdict (cond b (inverse_steps perm inv i) []) ≡ refused 12
          go true r = first_hit 12 [] tt (ap (λ (k : ℕ). not (eqb (index inv k) i)) (sym e) ∙ r)
          go false r = absurd (false≢true r)

      pub element_passed : (compared && not (eqb (index inv p) i)) ≡ false → Passed (element_steps compared perm inv i)
      element_passed q = first_skip 10 _ tt (lt-leb _ _ h) (first_skip 11 _ tt (sym mark_is ∙ fresh) (go compared q))
        where
          go : (b : Bool) → (b && not (eqb (index inv p) i)) ≡ false → Passed (cond b (inverse_steps perm inv i) [])
          go true r = first_skip 12 [] tt (ap (λ (k : ℕ). not (eqb (index inv k) i)) (sym e) ∙ r) (first_end tt)
          go false r = first_end tt

      pub looked_more : (compared && not (eqb (index inv p) i)) ≡ false → ElementsChecked compared perm inv (i + 1) (set seen p true)
      looked_more q = record {
        long = length-set seen p true ∙ L.long;
        passed = each_more (element_steps compared perm inv) i L.passed (element_passed q);
        marked = λ k l. elim (ℕ_discrete k p) [
          | yes d ↦
              ap (λ (j : ℕ). get_or (set seen p true) j false) d
              ∙ get_or-set_same seen p true false (omega (arith, L.long))
              ∙ sym (any_next _ i ∙ ap (λ (b : Bool). among perm i k || b) (eq-eqb (index perm i) k (sym e ∙ sym d)) ∙ or-true (among perm i k))
          | no d ↦
              get_or-set_other seen p k true false d
              ∙ L.marked k l
              ∙ sym (any_next _ i ∙ ap (λ (b : Bool). among perm i k || b) (ne_eqb (index perm i) k (λ r. d (sym r ∙ sym e))) ∙ or-false (among perm i k))
        ];
      }
