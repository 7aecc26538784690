-- Whether two sets of pairs agree; sets of equal size, one a part of the other, do.
-- Assumes nothing.
use Rattle.std.specs.Prelude.{ℕ, Bool, true, false, not}
use Rattle.lists.specs.Test.{any, any_in}

-- two tests differ
abbrev pub differ : Bool → Bool → Bool
differ true b = not b
differ false b = b

-- two sets agree at all pairs (r, c) with c ≤ r < n
unfoldable pub same_pairs : ℕ → (ℕ → ℕ → Bool) → (ℕ → ℕ → Bool) → Bool
same_pairs n S R = not (any (λ c. any_in (λ r. differ (S r c) (R r c)) c n) n)
