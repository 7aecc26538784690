-- The runs' list while cells come, one after the other. Past the places of the runs that are done, place p + 1 holds the strip of cell p with the cells that came after it,
-- so that it can be taken away when the cell leaves. Assumes nothing.
use Rattle.std.specs.Prelude.{ℕ, ◌+◌, ◌-◌, ◌≤◌, ◌<◌, min, ◌≡◌, List, length, ℤ, ◌+ℤ◌}
use Rattle.columns.specs.WholeFactor.{whole_value}
use Rattle.run_sums.specs.Runs.{block_sum, runs}
use Rattle.run_sums.specs.Slide.{strip}
use Rattle.track_variances.specs.Track.{track_entry}
use Rattle.track_variances.specs.Sizes.{RunsReady}

-- c cells have come, of runs of k: the runs that are done, the last of them perhaps growing, and the strips of the cells in it
pub record Slots (E : ℕ → ℕ → ℤ) (k c : ℕ) (l : List ℤ) : Type 0 where
  pub runs_are : (t : ℕ) → t < length l → t ≤ c - k → whole_value l t ≡ block_sum E (min c k) t
  pub strips_are : (t : ℕ) → t < length l → c - k < t → t ≤ c → whole_value l t ≡ strip E (t - 1) t (c - t)

-- the cell c meets the cells from f to below p: their strips have grown by it, and nothing else has changed
pub record Met (E : ℕ → ℕ → ℤ) (c f p : ℕ) (old l : List ℤ) : Type 0 where
  pub long : length l ≡ length old
  pub grown : (t : ℕ) → t < length l → f < t → t ≤ p → whole_value l t ≡ whole_value old t +ℤ (E c (t - 1) +ℤ E c (t - 1))
  pub front : (t : ℕ) → t ≤ f → whole_value l t ≡ whole_value old t
  pub back : (t : ℕ) → p < t → whole_value l t ≡ whole_value old t

-- it has met all, and its own strip begins
pub record Come (E : ℕ → ℕ → ℤ) (c f : ℕ) (old l : List ℤ) : Type 0 where
  pub long : length l ≡ length old
  pub grown : (t : ℕ) → t < length l → f < t → t ≤ c → whole_value l t ≡ whole_value old t +ℤ (E c (t - 1) +ℤ E c (t - 1))
  pub front : (t : ℕ) → t ≤ f → whole_value l t ≡ whole_value old t
  pub begun : c + 1 < length l → whole_value l (c + 1) ≡ E c c

-- the run before, without the cell that leaves it
module _ (E : ℕ → ℕ → ℤ) (symmetric : (p q : ℕ) → E p q ≡ E q p) (k c : ℕ) (l : List ℤ) (S : Slots E k c l) (wide : 0 < k) where
  -- the cell c has come to the run of f, and the run's sum is written
  module _ (l' : List ℤ) (C : Come E c (c + 1 - k) l l') (x : ℤ) (is : x ≡ block_sum E (min (c + 1) k) (c + 1 - k)) where
    abbrev pub f : ℕ
    f = c + 1 - k

-- ---- a cell of a track that may come: the one at place c, to a list of the runs' length
pub record MayCome (starts rows : List ℕ) (values : List ℤ) (track : List ℕ) (k c : ℕ) (l : List ℤ) : Type 0 where
  pub ready : RunsReady starts rows values track k
  pub inside : c < length track
  pub long : length l ≡ runs (length track) k
  pub slots : Slots (track_entry starts rows values track) k c l
