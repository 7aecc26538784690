-- Sets that agree at all pairs; sets of equal size, one a part of the other, do.
-- Assumes nothing.
use Prim.Native.Nat.{ℕ, zero, suc, ◌+◌, ◌-◌, ◌≤◌, ◌<◌}
use native.Mathlib.Omega.{arith}
use native.Mathlib.Nat.{eq-or-lt_of_le, le_of_suc-le-suc, not-suc-le-zero}
use mathlib.Core.Path.{◌≡◌, refl, sym, ap, subst, ◌∙◌}
use mathlib.Core.Bool.{Bool, true, false, not}
use mathlib.Core.Logic.{⊎_elim}
use Rattle.lists.specs.Test.{any_in, any_below, any-hit, any_all, any_in_below, any_in-hit, any_in_all}
use Rattle.lists.specs.Sum.{bit, sum_to, sum_to_le}
use Rattle.lists.specs.Select.{tally, tally_sum}
use Rattle.lists.specs.Cells.{cell_count}
use Rattle.pairs.specs.ColumnOrder.{by_column, set_size}
use Rattle.fill.specs.Agree.{differ, same_pairs}

differ_none : (a b : Bool) → differ a b ≡ false → a ≡ b
differ_none true true e = refl
differ_none true false e = e
differ_none false true e = sym e
differ_none false false e = refl

differ_self : (a b : Bool) → a ≡ b → differ a b ≡ false
differ_self true true e = refl
differ_self true false e = e
differ_self false true e = sym e
differ_self false false e = refl

module _ (n : ℕ) (S R : ℕ → ℕ → Bool) where
  pub same_pairs-agree : same_pairs n S R ≡ true → (r c : ℕ) → c ≤ r → r < n → S r c ≡ R r c
  unfolding same_pairs
  same_pairs-agree e r c h l =
      differ_none (S r c) (R r c)
      (any_in_below (λ r. differ (S r c) (R r c)) c n r (any_below (λ c. any_in (λ r. differ (S r c) (R r c)) c n) n c (flip _ e) (omega arith)) h l)
    where
      flip : (b : Bool) → not b ≡ true → b ≡ false
      flip true q = sym q
      flip false q = refl

  pub same_pairs_all : ((r c : ℕ) → c ≤ r → r < n → S r c ≡ R r c) → same_pairs n S R ≡ true
  unfolding same_pairs
  same_pairs_all f =
      ap not
      (any_all (λ c. any_in (λ r. differ (S r c) (R r c)) c n) n
      (λ c _. any_in_all (λ r. differ (S r c) (R r c)) c n (λ r lo hi. differ_self (S r c) (R r c) (f r c lo hi))))

  -- one pair that only the second has
  pub same_pairs_missing : (r c : ℕ) → c ≤ r → r < n → S r c ≡ false → R r c ≡ true → same_pairs n S R ≡ false
  unfolding same_pairs
  same_pairs_missing r c h l s t =
      ap not
      (any-hit (λ c. any_in (λ r. differ (S r c) (R r c)) c n) n c (omega arith)
      (any_in-hit (λ r. differ (S r c) (R r c)) c n r h l (rw (s, t))))

-- ---- sums of equal size, one at most the other
sum_to_same : (f g : ℕ → ℕ) (n : ℕ) → ((k : ℕ) → k < n → f k ≤ g k) → sum_to f n ≡ sum_to g n → (k : ℕ) → k < n → f k ≡ g k
unfolding sum_to
sum_to_same f g zero h e k l = absurd (not-suc-le-zero l)
sum_to_same f g (suc n) h e k l =
    let a = sum_to_le f g n (λ i m. h i (omega arith)) in
    let b = h n (omega arith) in
    ⊎_elim
    (λ q. subst (λ (i : ℕ). f i ≡ g i) (sym q) (omega arith))
    (λ m. sum_to_same f g n (λ i m. h i (omega arith)) (omega arith) k m)
    (eq-or-lt_of_le (le_of_suc-le-suc l))

bit_le : (a b : Bool) → (a ≡ true → b ≡ true) → bit a ≤ bit b
bit_le true b h = rw (h refl) (omega arith)
bit_le false b h = omega arith

bit_same : (a b : Bool) → bit a ≡ bit b → a ≡ b
bit_same true true e = refl
bit_same true false e = absurd (omega arith)
bit_same false true e = absurd (omega arith)
bit_same false false e = refl

module _ (n : ℕ) (R S : ℕ → ℕ → Bool) (part : (r c : ℕ) → c ≤ r → r < n → R r c ≡ true → S r c ≡ true) where
  bits : (c i : ℕ) → c < n → i < n - c → bit (R (c + i) c) ≤ bit (S (c + i) c)
  bits c i h l = bit_le (R (c + i) c) (S (c + i) c) (part (c + i) c (omega arith) (omega arith))

  column : (c : ℕ) → c < n → tally (by_column R c) c n ≤ tally (by_column S c) c n
  column c h =
      omega (
        arith,
        tally_sum (by_column R c) c n,
        tally_sum (by_column S c) c n,
        sum_to_le (λ i. bit (R (c + i) c)) (λ i. bit (S (c + i) c)) (n - c) (λ i l. bits c i h l),
      )

  -- a part as large is the whole
  pub set_size_same : set_size n R ≡ set_size n S → (r c : ℕ) → c ≤ r → r < n → R r c ≡ S r c
  unfolding cell_count
  set_size_same e r c h l =
      let q : c + (r - c) ≡ r = omega arith in
      let t = sum_to_same (λ c. tally (by_column R c) c n) (λ c. tally (by_column S c) c n) n column e c (omega arith) in
      let s = sym (tally_sum (by_column R c) c n) ∙ t ∙ tally_sum (by_column S c) c n in
      let b = sum_to_same (λ i. bit (R (c + i) c)) (λ i. bit (S (c + i) c)) (n - c) (λ i m. bits c i (omega arith) m) s (r - c) (omega arith) in
      bit_same (R r c) (S r c) (subst (λ (k : ℕ). bit (R k c) ≡ bit (S k c)) q b)
