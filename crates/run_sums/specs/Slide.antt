-- A run grows by one cell at its end, and loses its first: by that cell's strip, its own entry and twice those with the cells of the rest. So a run slides by one cell
-- with the strip of the one that leaves and of the one that comes. Assumes nothing.
use Rattle.std.specs.Prelude.{ℕ, ◌+◌, ℤ, ◌+ℤ◌}
use Rattle.integers.specs.Sum.{Σℤ}

-- the entries of the cell at place p with the m cells from f on
abbrev pub line_sum : (ℕ → ℕ → ℤ) → ℕ → ℕ → ℕ → ℤ
line_sum E p f m = Σℤ m (λ b. E p (f + b))

-- what the cell at place p adds to the m cells from f on: its own entry, and twice those with them
abbrev pub strip : (ℕ → ℕ → ℤ) → ℕ → ℕ → ℕ → ℤ
strip E p f m = E p p +ℤ (line_sum E p f m +ℤ line_sum E p f m)
