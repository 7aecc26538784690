-- Laws of specs/Slide.antt.
use Rattle.std.specs.Prelude.{ℕ, suc, ◌+◌, ◌*◌, ◌<◌, ◌≡◌, ℤ, ◌+ℤ◌, ◌-ℤ◌}
use Rattle.std.proofs.Common.{arith, add-zero, sym, ap, ap₂, ◌∙◌}
use Rattle.std.proofs.Math.IntN.{+ℤ_assoc, +ℤ_comm, +ℤ_idr, +ℤ-neg_ℤ_cancel}
use Rattle.integers.proofs.Integer.{+ℤ-interchange}
use Rattle.integers.specs.Sum.{Σℤ}
use Rattle.integers.proofs.Sum.{sum_cong, sum_add, sum_first}
use Rattle.integers.specs.Size.{SizeWithin}
use Rattle.integers.proofs.Size.{size_sums}
use Rattle.run_sums.specs.Runs.{block_sum}
use Rattle.run_sums.specs.Slide.{line_sum, strip}

pub strip_none : (E : ℕ → ℕ → ℤ) (p f : ℕ) → strip E p f 0 ≡ E p p
strip_none E p f = +ℤ_idr (E p p)

-- one cell more
pub strip_more : (E : ℕ → ℕ → ℤ) (p f m : ℕ) → strip E p f (suc m) ≡ strip E p f m +ℤ (E p (f + m) +ℤ E p (f + m))
strip_more E p f m =
    ap (λ (x : ℤ). E p p +ℤ x) (+ℤ-interchange (line_sum E p f m) (E p (f + m)) (line_sum E p f m) (E p (f + m)))
    ∙ sym (+ℤ_assoc (E p p) (line_sum E p f m +ℤ line_sum E p f m) (E p (f + m) +ℤ E p (f + m)))

-- a + s + (s' + b) as a + (b + (s + s'))
at_end : (x s t b : ℤ) → (x +ℤ s) +ℤ (t +ℤ b) ≡ x +ℤ (b +ℤ (s +ℤ t))
at_end x s t b = +ℤ_assoc x s (t +ℤ b) ∙ ap (λ (y : ℤ). x +ℤ y) (sym (+ℤ_assoc s t b) ∙ +ℤ_comm (s +ℤ t) b)

at_front : (x s t b : ℤ) → (b +ℤ s) +ℤ (t +ℤ x) ≡ x +ℤ (b +ℤ (s +ℤ t))
at_front x s t b = +ℤ_assoc b s (t +ℤ x) ∙ ap (λ (y : ℤ). b +ℤ y) (sym (+ℤ_assoc s t x)) ∙ sym (+ℤ_assoc b (s +ℤ t) x) ∙ +ℤ_comm (b +ℤ (s +ℤ t)) x

module _ (E : ℕ → ℕ → ℤ) (symmetric : (p q : ℕ) → E p q ≡ E q p) where
  -- one cell more at the end
  pub block_more : (m i : ℕ) → block_sum E (suc m) i ≡ block_sum E m i +ℤ strip E (i + m) i m
  block_more m i =
      ap (λ (x : ℤ). x +ℤ Σℤ (suc m) (λ b. E (i + m) (i + b)))
      (sum_add m (λ a. Σℤ m (λ b. E (i + a) (i + b))) (λ a. E (i + a) (i + m))
      ∙ ap (λ (x : ℤ). block_sum E m i +ℤ x) (sum_cong m (λ a. E (i + a) (i + m)) (λ a. E (i + m) (i + a)) (λ a h. symmetric (i + a) (i + m))))
      ∙ at_end (block_sum E m i) (line_sum E (i + m) i m) (line_sum E (i + m) i m) (E (i + m) (i + m))

  -- the same with the first cell by itself
  pub block_first : (m i : ℕ) → block_sum E (suc m) i ≡ block_sum E m (i + 1) +ℤ strip E i (i + 1) m
  block_first m i =
      sum_first m (λ a. Σℤ (suc m) (λ b. E (i + a) (i + b)))
      ∙ ap₂ ◌+ℤ◌ row rest
      ∙ at_front (block_sum E m (i + 1)) (line_sum E i (i + 1) m) (line_sum E i (i + 1) m) (E i i)
    where
      next : (a : ℕ) → i + suc a ≡ i + 1 + a
      next a = omega arith

      row : Σℤ (suc m) (λ b. E (i + 0) (i + b)) ≡ E i i +ℤ line_sum E i (i + 1) m
      row =
          sum_first m (λ b. E (i + 0) (i + b))
          ∙ ap₂ ◌+ℤ◌ (ap₂ E (add-zero i) (add-zero i)) (sum_cong m (λ b. E (i + 0) (i + suc b)) (λ b. E i (i + 1 + b)) (λ b h. ap₂ E (add-zero i) (next b)))

      inner : (a : ℕ) → Σℤ (suc m) (λ b. E (i + suc a) (i + b)) ≡ E i (i + 1 + a) +ℤ Σℤ m (λ b. E (i + 1 + a) (i + 1 + b))
      inner a =
          sum_first m (λ b. E (i + suc a) (i + b))
          ∙ ap₂ ◌+ℤ◌ (ap₂ E (next a) (add-zero i) ∙ symmetric (i + 1 + a) i)
          (sum_cong m (λ b. E (i + suc a) (i + suc b)) (λ b. E (i + 1 + a) (i + 1 + b)) (λ b h. ap₂ E (next a) (next b)))

      rest : Σℤ m (λ a. Σℤ (suc m) (λ b. E (i + suc a) (i + b))) ≡ line_sum E i (i + 1) m +ℤ block_sum E m (i + 1)
      rest =
          sum_cong m (λ a. Σℤ (suc m) (λ b. E (i + suc a) (i + b))) (λ a. E i (i + 1 + a) +ℤ Σℤ m (λ b. E (i + 1 + a) (i + 1 + b))) (λ a h. inner a)
          ∙ sum_add m (λ a. E i (i + 1 + a)) (λ a. Σℤ m (λ b. E (i + 1 + a) (i + 1 + b)))

  -- the run's first cell leaves
  pub block_leave : (m i : ℕ) → block_sum E (suc m) i -ℤ strip E i (i + 1) m ≡ block_sum E m (i + 1)
  block_leave m i = ap (λ (x : ℤ). x -ℤ strip E i (i + 1) m) (block_first m i) ∙ +ℤ-neg_ℤ_cancel (block_sum E m (i + 1)) (strip E i (i + 1) m)

  -- the run of m + 1 cells slides by one: the cell at i leaves, that at i + 1 + m comes
  pub run_slide : (m i : ℕ) → block_sum E (suc m) (i + 1) ≡ (block_sum E (suc m) i -ℤ strip E i (i + 1) m) +ℤ strip E (i + 1 + m) (i + 1) m
  run_slide m i = block_more m (i + 1) ∙ ap (λ (x : ℤ). x +ℤ strip E (i + 1 + m) (i + 1) m) (sym (block_leave m i))

-- ---- sizes, with entries of at most s
module _ (E : ℕ → ℕ → ℤ) (s : ℕ) where
  pub line_size : (p f m : ℕ) → ((b : ℕ) → b < m → SizeWithin s (E p (f + b))) → SizeWithin (m * s) (line_sum E p f m)
  line_size p f m h = size_sums s m (λ b. E p (f + b)) h

  pub block_size : (k i : ℕ) → ((a b : ℕ) → a < k → b < k → SizeWithin s (E (i + a) (i + b))) → SizeWithin (k * (k * s)) (block_sum E k i)
  block_size k i h = size_sums (k * s) k (λ a. Σℤ k (λ b. E (i + a) (i + b))) (λ a l. size_sums s k (λ b. E (i + a) (i + b)) (λ b j. h a b l j))
