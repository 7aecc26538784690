-- The exact recurrence of a factor of whole numbers with ones on its diagonal, and where it exceeds 2 ^ 53 over a set of pairs.
-- Assumes nothing.
use Rattle.std.specs.Prelude.{ℕ, ◌+◌, ◌≤◌, ◌<◌, ◌≡◌, Bool, true, ◌&&◌, List, ℤ}
use Rattle.std.proofs.Math.Bool.{◌||◌}
use Rattle.lists.specs.Test.{any, any_in}
use Rattle.columns.specs.Columns.{start}
use Rattle.columns.specs.Kept.{kept}
use Rattle.columns.specs.WholeFactor.{whole_value, whole_nonzero, whole_desc}
use Rattle.exact.specs.Multiple.{Small}
use Rattle.exact.specs.ExactCase.{unit_table}
use Rattle.exact.specs.Checked.{beyond}
use Rattle.exact.specs.Exceeds.{set_exceeds}

-- the exact recurrence at all pairs, whatever the size of its numbers
unfoldable pub whole_table : ℕ → List ℕ → List ℕ → List ℤ → ℕ → ℕ → ℤ
whole_table n starts rows values = unit_table n (whole_desc starts rows values)

-- a stored entry of column c is kept and beyond 2 ^ 53
abbrev pub kept_exceeds : List ℕ → List ℕ → List ℤ → ℕ → Bool
kept_exceeds starts rows values c =
    any_in (λ p. kept rows (whole_nonzero values) c p && beyond (whole_value values p)) (start starts c) (start starts (c + 1))

-- a kept entry of the factor, in any column, or a product, running sum or entry of the exact recurrence over the set, exceeds 2 ^ 53 in size
abbrev pub exceeds : ℕ → List ℕ → List ℕ → List ℤ → (ℕ → ℕ → Bool) → Bool
exceeds n starts rows values S =
    any (kept_exceeds starts rows values) n || set_exceeds n (whole_desc starts rows values) (whole_table n starts rows values) S

-- each kept entry is at most 2 ^ 53 in size
abbrev pub KeptSmall : ℕ → List ℕ → List ℕ → List ℤ → Type 0
KeptSmall n starts rows values =
    (c p : ℕ) → c < n → start starts c ≤ p → p < start starts (c + 1) → kept rows (whole_nonzero values) c p ≡ true → Small (whole_value values p)
