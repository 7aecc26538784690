-- Laws of specs/Sizes.antt.
use Rattle.std.specs.Prelude.{ℕ, ◌+◌, ◌-◌, ◌≤◌, ◌<◌, min, ◌≡◌, List, length, ℤ}
use Rattle.std.proofs.Common.{arith, le_refl, mul-le-mul, ap₂}
use Rattle.integers.specs.Size.{SizeWithin}
use Rattle.integers.proofs.Size.{size_more, size_is, size_sum}
use Rattle.run_sums.specs.Runs.{runs, block_sum}
use Rattle.run_sums.specs.Slide.{line_sum, strip}
use Rattle.run_sums.proofs.Slide.{line_size, block_size}
use Rattle.track_variances.specs.Track.{max_track_entry, track_entry}
use Rattle.track_variances.specs.Sizes.{RunsReady}

module _ {starts rows : List ℕ} {values : List ℤ} {track : List ℕ} {k : ℕ} (R : RunsReady starts rows values track k) where
  abbrev E : ℕ → ℕ → ℤ
  E = track_entry starts rows values track

  -- places less than k apart stand in one run
  entry_of : (i p q : ℕ) → i < runs (length track) k → i ≤ p → i ≤ q → p < i + k → q < i + k → SizeWithin max_track_entry (E p q)
  entry_of i p q h a b l m =
      let x : i + (p - i) ≡ p = omega arith in
      let y : i + (q - i) ≡ q = omega arith in
      size_is (ap₂ E x y) (R.entry i (p - i) (q - i) h (omega arith) (omega arith))

  pub earlier_small : (p q : ℕ) → p ≤ q → q < p + k → q < length track → SizeWithin max_track_entry (E p q)
  earlier_small p q h l m =
      let w = R.wide in
      let g = R.long in
      entry_of (min p (length track - k)) p q (omega arith) (omega arith) (omega arith) (omega arith) (omega arith)

  pub later_small : (p q : ℕ) → p ≤ q → q < p + k → q < length track → SizeWithin max_track_entry (E q p)
  later_small p q h l m =
      let w = R.wide in
      let g = R.long in
      entry_of (min p (length track - k)) q p (omega arith) (omega arith) (omega arith) (omega arith) (omega arith)

  -- a run, or the front of one, is at most 2^60
  pub block_small : (i j : ℕ) → i < runs (length track) k → j ≤ k → SizeWithin 1152921504606846976 (block_sum E j i)
  block_small i j h l =
      size_more (block_size E max_track_entry j i (λ a b u v. R.entry i a b h (omega arith) (omega arith)))
      (mul-le-mul {n₁ = j} {n₂ = 1024} (omega (arith, R.few)) (mul-le-mul {n₁ = j} {n₂ = 1024} (omega (arith, R.few)) (le_refl max_track_entry)))

  -- a line of less than k cells at most 2^50, and a strip at most 2^52
  module _ (p f m : ℕ) (few : m < k) (own : SizeWithin max_track_entry (E p p)) (entries : (b : ℕ) → b < m → SizeWithin max_track_entry (E p (f + b))) where
    line_small : SizeWithin 1125899906842624 (line_sum E p f m)
    line_small = size_more (line_size E max_track_entry p f m entries) (omega (arith, R.few))

    strip_small : SizeWithin 4503599627370496 (strip E p f m)
    strip_small = size_more (size_sum own (size_sum line_small line_small)) (omega arith)

  -- of a cell with those after it
  pub after_small : (p m : ℕ) → m < k → p + m < length track → SizeWithin 4503599627370496 (strip E p (p + 1) m)
  after_small p m h l =
      let w = R.wide in
      strip_small p (p + 1) m h (earlier_small p p (le_refl p) (omega arith) (omega arith)) (λ b j. earlier_small p (p + 1 + b) (omega arith) (omega arith) (omega arith))

  -- and with those before it
  module _ (c f : ℕ) (h : f ≤ c) (l : c < f + k) (inside : c < length track) where
    before_entry : (m b : ℕ) → m ≤ c - f → b < m → SizeWithin max_track_entry (E c (f + b))
    before_entry m b j g = later_small (f + b) c (omega arith) (omega arith) inside

    own_entry : SizeWithin max_track_entry (E c c)
    own_entry = let w = R.wide in earlier_small c c (le_refl c) (omega arith) inside

    pub before_line : (m : ℕ) → m ≤ c - f → SizeWithin 1125899906842624 (line_sum E c f m)
    before_line m j = let w = R.wide in line_small c f m (omega arith) own_entry (λ b g. before_entry m b j g)

    pub before_small : SizeWithin 4503599627370496 (strip E c f (c - f))
    before_small = let w = R.wide in strip_small c f (c - f) (omega arith) own_entry (λ b g. before_entry (c - f) b (le_refl (c - f)) g)
