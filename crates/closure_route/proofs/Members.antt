-- Marks that are the members of the closed set: the set that they say is closed, and has as many pairs.
-- Assumes nothing.
use Rattle.std.specs.Prelude.{ℕ, ◌≤◌, ◌<◌, min, max, ◌≡◌, Bool, List}
use Rattle.std.proofs.Common.{arith, sym, ◌∙◌}
use Rattle.pairs.specs.ColumnOrder.{column_marking, set_size}
use Rattle.pairs.proofs.ColumnOrder.{set_size_cong}
use Rattle.closed_set.specs.ClosedSet.{member, Closed, Pattern, Ranged}
use Rattle.closed_set.proofs.ClosedSet.{member_closed}
use Rattle.closed_set.specs.Size.{closure_size}

module _ (n : ℕ) (desc : ℕ → List ℕ) (req : ℕ → ℕ → Bool) (s : List ℕ)
    (marks : (r c : ℕ) → c ≤ r → r < n → column_marking n s r c ≡ member n desc req r c) where
  pub marked_size : set_size n (column_marking n s) ≡ closure_size n desc req
  marked_size = set_size_cong n (column_marking n s) (member n desc req) marks

  pub marked_closed : Pattern n desc → Ranged n req → Closed n desc (column_marking n s)
  marked_closed P R r c d h l i t =
      let b = P.inside c d (omega arith) i in
      marks (max r d) (min r d) (omega arith) (omega arith) ∙ member_closed n desc req P R r c d h l i (sym (marks r c h l) ∙ t)
