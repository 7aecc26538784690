-- Laws of specs/Size.antt.
use Rattle.std.specs.Prelude.{ℕ, ◌≤◌, ◌<◌, ◌≡◌, Bool, true, List, length}
use Rattle.lists.specs.Cells.{cells}
use Rattle.pairs.specs.Pair.{pair_total}
use Rattle.pairs.specs.ColumnOrder.{by_column, column_first, column_end, set_size}
use Rattle.pairs.proofs.ColumnOrder.{set_size_cong, set_size_le, set_size-length, set_size_most}
use Rattle.closed_set.specs.ClosedSet.{member, Pattern, Ranged}
use Rattle.closed_set.proofs.ClosedSet.{member_cong, member_holds}
use Rattle.closed_set.specs.Size.{closure_size, requested_pairs}

module _ (n : ℕ) (desc : ℕ → List ℕ) (req : ℕ → ℕ → Bool) where
  -- it counts the set's pairs
  pub closure_size-length : {A : Type 0} (f : ℕ → ℕ → A) → length (cells (by_column (member n desc req)) column_first (column_end n) f n) ≡ closure_size n desc req
  closure_size-length f = set_size-length n (member n desc req) f

  pub closure_size_most : closure_size n desc req ≤ pair_total n
  closure_size_most = set_size_most n (member n desc req)

  -- a marking within the set counts at most as many
  pub closure_size_within : (S : ℕ → ℕ → Bool) → ((r c : ℕ) → c ≤ r → r < n → S r c ≡ true → member n desc req r c ≡ true) → set_size n S ≤ closure_size n desc req
  closure_size_within S h = set_size_le n S (member n desc req) h

  -- so do the requested pairs
  pub requested_pairs_within : Pattern n desc → Ranged n req → requested_pairs n req ≤ closure_size n desc req
  requested_pairs_within P R = closure_size_within req (λ r c h l e. member_holds n desc req P R r c e)

-- equal patterns and equal requests give equal sizes
pub closure_size_cong : (n : ℕ) (desc desc' : ℕ → List ℕ) (req req' : ℕ → ℕ → Bool) → ((c : ℕ) → c < n → desc c ≡ desc' c)
    → ((r c : ℕ) → c ≤ r → r < n → req r c ≡ req' r c) → closure_size n desc req ≡ closure_size n desc' req'
closure_size_cong n desc desc' req req' p q = set_size_cong n _ _ (member_cong n desc desc' req req' p q)
