-- The decimal digits of a number as bytes, and that they are read back as it.
-- Assumes nothing.
use Rattle.std.specs.Prelude.{ℕ, zero, suc, ◌+◌, ◌/◌, ◌%◌, cond, List, [], ◌∷◌, ◌++◌, ltb}

-- the digits of n, at most k of them, the last ones
unfoldable pub digits_within : ℕ → ℕ → List ℕ
digits_within zero n = []
digits_within (suc k) n = let more = digits_within k (n / 10) ++ ((48 + n % 10) ∷ []) in cond (ltb n 10) ((48 + n) ∷ []) more

-- the decimal digits of n: it has at most n + 1
unfoldable pub decimal : ℕ → List ℕ
decimal n = digits_within (suc n) n
