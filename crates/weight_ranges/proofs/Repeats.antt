-- Laws of specs/Repeats.antt.
use Rattle.std.specs.Prelude.{ℕ, zero, suc, ◌≤◌, ◌<◌, ◌≡◌, refl, Bool, true, false, cond, List, eqb, length}
use Rattle.std.proofs.Common.{arith, sym, ◌∙◌, eq-eqb, eqb-true, leb-false}
use Rattle.std.proofs.lemmas.Bool.{eqb-false}
use Rattle.lists.specs.Test.{any, any-hit, any_below, any_found}
use Rattle.columns.specs.Columns.{outside, outside_at}
use Rattle.quadratic_form.specs.RowValue.{term_column}
use Rattle.weight_ranges.specs.Ranges.{repeated_at, repeated}
use Rattle.weight_ranges.specs.Repeats.{Twice}

widen : {f : ℕ → ℕ} {m : ℕ} → Twice f m → Twice f (suc m)
widen T = let l = T.below in record { i = T.i; j = T.j; before = T.before; below = omega arith; same = T.same }

-- f with its last value, at m, in place of n
abbrev moved : (ℕ → ℕ) → ℕ → ℕ → ℕ → ℕ
moved f m n k = cond (eqb (f k) n) (f m) (f k)

moved_less : (f : ℕ → ℕ) (m n k : ℕ) → f m < n → f k < suc n → moved f m n k < n
moved_less f m n k last l = go (eqb (f k) n) refl
  where
    go : (b : Bool) → eqb (f k) n ≡ b → cond b (f m) (f k) < n
    go true e = last
    go false e = let d = eqb-false (f k) n e in omega arith

moved_found : (f : ℕ → ℕ) (m n : ℕ) → Twice (moved f m n) m → Twice f (suc m)
moved_found f m n T = go (eqb (f T.i) n) (eqb (f T.j) n) refl refl T.same
  where
    b : T.i < T.j
    b = T.before

    l : T.j < m
    l = T.below

    go : (x y : Bool) → eqb (f T.i) n ≡ x → eqb (f T.j) n ≡ y → cond x (f m) (f T.i) ≡ cond y (f m) (f T.j) → Twice f (suc m)
    go true true p q e = record { i = T.i; j = T.j; before = b; below = omega (arith, l); same = eqb-true (f T.i) n p ∙ sym (eqb-true (f T.j) n q) }
    go true false p q e = record { i = T.j; j = m; before = l; below = omega arith; same = sym e }
    go false true p q e = record { i = T.i; j = m; before = omega (arith, b, l); below = omega arith; same = e }
    go false false p q e = record { i = T.i; j = T.j; before = b; below = omega (arith, l); same = e }

-- m + 1 values, none n or more, and m at least n: two are equal
pub pigeons : (n m : ℕ) (f : ℕ → ℕ) → n ≤ m → ((k : ℕ) → k < suc m → f k < n) → Twice f (suc m)
pigeons zero m f h small = absurd (let l = small 0 (omega arith) in omega arith)
pigeons (suc n) zero f h small = absurd (omega arith)
pigeons (suc n) (suc m) f h small =
    go (eqb (f (suc m)) n) (any (λ k. eqb (f k) n) (suc m)) refl refl
    (λ less. pigeons n m f (omega arith) less)
    (λ less. pigeons n m (moved f (suc m) n) (omega arith) less)
  where
    go : (x y : Bool) → eqb (f (suc m)) n ≡ x → any (λ k. eqb (f k) n) (suc m) ≡ y → (((k : ℕ) → k < suc m → f k < n) → Twice f (suc m))
        → (((k : ℕ) → k < suc m → moved f (suc m) n k < n) → Twice (moved f (suc m) n) (suc m)) → Twice f (suc (suc m))
    go true true p q r s =
        let w = any_found (λ k. eqb (f k) n) (suc m) q in
        record { i = w.0; j = suc m; before = w.1; below = omega arith; same = eqb-true (f w.0) n w.2 ∙ sym (eqb-true (f (suc m)) n p) }
    go true false p q r s =
        widen
        (r (λ k l. let d = eqb-false (f k) n (any_below (λ i. eqb (f i) n) (suc m) k q l) in let u = small k (omega arith) in omega arith))
    go false y p q r s =
        moved_found f (suc m) n
        (s (λ k l. moved_less f (suc m) n k (let d = eqb-false (f (suc m)) n p in let u = small (suc m) (omega arith) in omega arith) (small k (omega arith))))

-- columns below n, more than n of them
pub repeats : (n : ℕ) (columns : List ℕ) → outside n columns ≡ false → n < length columns → repeated columns ≡ true
repeats n columns inside many = go (length columns) refl
  where
    go : (c : ℕ) → length columns ≡ c → repeated columns ≡ true
    go zero e = absurd (omega arith)
    go (suc m) e =
        let T = pigeons n m (term_column columns) (omega arith)
        (λ k l. leb-false n (term_column columns k) (any_below (outside_at n columns) (length columns) k inside (omega arith))) in
        let b = T.before in
        let l = T.below in
        any-hit (repeated_at columns) (length columns) T.j (omega arith)
        (any-hit (λ i. eqb (term_column columns i) (term_column columns T.j)) T.j T.i b (eq-eqb _ _ T.same))
