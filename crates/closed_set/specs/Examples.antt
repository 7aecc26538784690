-- The closed sets of document 01's cases: F2 and F3.
-- Assumes nothing.
use Rattle.std.specs.Prelude.{ℕ, zero, suc, List, [], ◌∷◌}

-- the descendants of F2's and F3's columns
unfoldable pub f2 : ℕ → List ℕ
f2 zero = 1 ∷ []
f2 (suc c) = []

unfoldable pub f3 : ℕ → List ℕ
f3 zero = 1 ∷ 2 ∷ []
f3 (suc c) = []
