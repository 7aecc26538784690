-- Laws of specs/Worst.antt.
use Rattle.std.specs.Prelude.{ℕ, zero, suc, ◌+◌, ◌-◌, ◌≤◌, ◌<◌, max, ◌≡◌, refl, Bool, true, false, ◌||◌, leb}
use Rattle.std.proofs.Common.{arith, add-one, ap, ◌∙◌, le-leb, leb-true, leb-false}
use Rattle.std.proofs.lemmas.Bool.{lt-leb}
use Rattle.lists.specs.Test.{any, any_in}
use Rattle.whole_pairs.specs.Worst.{worst, worst_in}

pub worst_none : (f : ℕ → ℕ) → worst f 0 ≡ 0
unfolding worst
worst_none f = refl

pub worst_next : (f : ℕ → ℕ) (k : ℕ) → worst f (k + 1) ≡ max (worst f k) (f k)
unfolding worst
worst_next f k = rw add-one

pub worst_in_none : (f : ℕ → ℕ) (s : ℕ) → worst_in f s s ≡ 0
unfolding worst_in
worst_in_none f s = let q : s - s ≡ 0 = omega arith in rw q (worst_none _)

pub worst_in_next : (f : ℕ → ℕ) (s k : ℕ) → s ≤ k → worst_in f s (k + 1) ≡ max (worst_in f s k) (f k)
unfolding worst_in
worst_in_next f s k h =
    let q : (k + 1) - s ≡ (k - s) + 1 = omega arith in
    let p : s + (k - s) ≡ k = omega arith in
    rw q (worst_next (λ j. f (s + j)) (k - s) ∙ ap (λ (j : ℕ). max (worst (λ i. f (s + i)) (k - s)) (f j)) p)

-- at least t, which is not 0, exactly if some value is
max_test : (t a b : ℕ) → leb t (max a b) ≡ (leb t a || leb t b)
max_test t a b = go (leb t a) (leb t b) refl refl
  where
    go : (x y : Bool) → leb t a ≡ x → leb t b ≡ y → leb t (max a b) ≡ (x || y)
    go true y p q = let l = leb-true t a p in le-leb t (max a b) (omega arith)
    go false true p q = let l = leb-true t b q in le-leb t (max a b) (omega arith)
    go false false p q =
        let l = leb-false t a p in
        let m = leb-false t b q in
        lt-leb t (max a b) (omega arith)

pub worst_test : (t : ℕ) → 0 < t → (f : ℕ → ℕ) (n : ℕ) → leb t (worst f n) ≡ any (λ k. leb t (f k)) n
unfolding worst any
worst_test t h f zero = lt-leb t 0 h
worst_test t h f (suc n) = max_test t (worst f n) (f n) ∙ ap (λ (b : Bool). b || leb t (f n)) (worst_test t h f n)

pub worst_in_test : (t : ℕ) → 0 < t → (f : ℕ → ℕ) (s e : ℕ) → leb t (worst_in f s e) ≡ any_in (λ k. leb t (f k)) s e
unfolding worst_in any_in
worst_in_test t h f s e = worst_test t h (λ k. f (s + k)) (e - s)
