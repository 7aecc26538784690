-- Laws of specs/FileOf.antt.
use Rattle.std.specs.Prelude.{ℕ, ◌≤◌, ◌<◌, ◌≡◌, Bool, List, ◌∷◌}
use Rattle.std.proofs.Common.{ap₂}
use Rattle.lists.specs.Cells.{cells_cong}
use Rattle.pairs.specs.ColumnOrder.{by_column, column_first, column_end}
use Rattle.pairs.proofs.ColumnOrder.{set_size_cong}
use Rattle.matrix_market.specs.Text.{joined}
use Rattle.matrix_market.specs.File.{header}
use Rattle.matrix_market.specs.FileOf.{size_line, entry_line, file_of}

-- equal sets give equal bytes
pub file_cong : (n : ℕ) (S R : ℕ → ℕ → Bool) → ((r c : ℕ) → c ≤ r → r < n → S r c ≡ R r c) → file_of n S ≡ file_of n R
unfolding file_of
file_cong n S R h =
    ap₂ (λ (k : ℕ) (ls : List (List ℕ)). joined 10 (header ∷ (size_line n k ∷ ls))) (set_size_cong n S R h)
    (cells_cong (by_column S) (by_column R) column_first (column_end n) entry_line n (λ c r _ lo hi. h r c lo hi))
