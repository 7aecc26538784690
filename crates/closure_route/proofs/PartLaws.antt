-- A part of a list that is set, a place at a time.
-- Assumes nothing.
use Prim.Native.Nat.{ℕ, ◌+◌, ◌≤◌, ◌<◌}
use native.Mathlib.Omega.{arith}
use native.Mathlib.Nat.{eq-or-lt_of_le, le_of_suc-le-suc}
use native.Mathlib.Numerals.{add-one}
use mathlib.Core.Path.{◌≡◌, refl, sym, subst, ◌∙◌}
use mathlib.Core.Logic.{⊎_elim}
use mathlib.Core.List.{List}
use lib.ListN.{length, get_or, set, length-set}
use lib.Seq.{get_or-set_same, get_or-set_other}
use lib.Ieee.{Float, nan}
use Rattle.closure_route.specs.Part.{PartSet}

pub part_none : (from : ℕ) (f : ℕ → Float) (z : List Float) → PartSet from from f z z
part_none from f z = record { long = refl; holds = λ p lo hi. absurd (omega arith); before = λ p h. refl; after = λ p h. refl }

-- one more place
pub part_more : {from q : ℕ} {f : ℕ → Float} {z₀ z : List Float} {x : Float} → PartSet from q f z₀ z → from ≤ q → q < length z₀ → x ≡ f q
    → PartSet from (q + 1) f z₀ (set z q x)
part_more {from} {q} {f} {z₀} {z} {x} D lo fits same = record {
  long = length-set z q x ∙ D.long;
  holds = λ p a b.
      ⊎_elim
      (λ w.
      subst (λ (k : ℕ). get_or (set z q x) k nan ≡ f k) (sym w) (get_or-set_same z q x nan (omega (arith, D.long)) ∙ same))
      (λ w. get_or-set_other z q p x nan (omega arith) ∙ D.holds p a w)
      (eq-or-lt_of_le (le_of_suc-le-suc (rw add-one at b)));
  before = λ p h. get_or-set_other z q p x nan (omega arith) ∙ D.before p h;
  after = λ p h. get_or-set_other z q p x nan (omega arith) ∙ D.after p (omega arith);
}

-- f may be another function that is the same at the places set
pub part_same : {from q : ℕ} {f g : ℕ → Float} {z₀ z : List Float} → PartSet from q f z₀ z → ((p : ℕ) → from ≤ p → p < q → f p ≡ g p)
    → PartSet from q g z₀ z
part_same D same = record {
  long = D.long;
  holds = λ p lo hi. D.holds p lo hi ∙ same p lo hi;
  before = D.before;
  after = D.after;
}
