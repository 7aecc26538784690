-- The scatter adds each row's products in ascending order of the descendants: what the sums hold on the way over the columns of one descendant
-- or of two, and that whole sums are the recurrence's. Assumes nothing.
use Rattle.std.specs.Prelude.{◌≡◌, List, get_or}
use Prim.Native.Nat.{ℕ, ◌≤◌, ◌<◌}
use Rattle.std.proofs.Math.ListN.{length}
use Rattle.refusal.specs.Bounds.{max_dimension}
use Rattle.takahashi.specs.Recurrence.{Arithmetic}
use Rattle.scatter.specs.Scatter.{terms_at}

module _ (A : Arithmetic) (none : A.Carrier) (Z : ℕ → ℕ → A.Carrier) (rows : List ℕ) (b : ℕ) (weights : List A.Carrier) where
  module _ (m : ℕ) where
    -- the columns of the positions from c to below d, walked over at once, past the rows before position t: those of c to d are held elsewhere
    pub record Walking (c d t : ℕ) (sums : List A.Carrier) : Type 0 where
      pub long : length sums ≡ max_dimension
      pub done : (p : ℕ) → p < c → get_or sums p none ≡ terms_at A none Z rows b m weights p m
      pub over : (p : ℕ) → d ≤ p → p < t → get_or sums p none ≡ terms_at A none Z rows b m weights p d
      pub rest : (p : ℕ) → t ≤ p → p < m → get_or sums p none ≡ terms_at A none Z rows b m weights p c
