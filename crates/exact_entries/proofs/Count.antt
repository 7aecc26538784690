-- Laws of specs/Count.antt.
use Rattle.std.specs.Prelude.{ℕ, ◌+◌, ◌≤◌, ◌<◌, ◌≡◌, Bool, true, List}
use Rattle.std.proofs.Common.{arith, sym, ap, subst, ◌∙◌}
use Rattle.columns.proofs.Factor.{neither_below}
use Rattle.closed_set.specs.ClosedSet.{Pattern}
use Rattle.closed_set.proofs.ClosedSet.{needed_range, needed_member, member_needed}
use Rattle.entries.specs.Entries.{column_count, position}
use Rattle.entries.proofs.Position.{column_count_mono, position_in, position_below, position_rises, position_onto}
use Rattle.selection.specs.Selection.{Selection, selected_pattern, Lent, room_of, Accepted, selected_set}
use Rattle.exact_entries.specs.Recurrence.{InClosedSet}
use Rattle.exact_entries.proofs.Recurrence.{selected_pattern_lem}
use Rattle.exact_entries.specs.Count.{Counts}

module _ (x : Selection) (lent : Lent) (A : Accepted x (room_of lent)) where
  abbrev pat : ℕ → List ℕ
  pat = selected_pattern x

  P : Pattern x.factor.n pat
  P = selected_pattern_lem x lent A

  abbrev S : ℕ → ℕ → Bool
  S = selected_set x

  module _ {r c : ℕ} (p : InClosedSet x r c) where
    range : (c ≤ r) × (r < x.factor.n)
    range = needed_range pat x.requests x.factor.n P A.requests p

    member_is : S r c ≡ true
    member_is = needed_member x.factor.n pat x.requests P A.requests p

    lies : position x.factor.n S r c < column_count x.factor.n S (c + 1)
    lies = position_in x.factor.n S r c range.0 range.1 member_is

  -- a position in an earlier column is less
  earlier : (r c s d : ℕ) → InClosedSet x r c → InClosedSet x s d → c < d → position x.factor.n S r c < position x.factor.n S s d
  earlier r c s d p q l = omega (arith, lies p, column_count_mono x.factor.n S (c + 1) d (omega arith))

  same_column : (r s c : ℕ) → InClosedSet x r c → InClosedSet x s c → position x.factor.n S r c ≡ position x.factor.n S s c → r ≡ s
  same_column r s c p q e =
      neither_below r s
      (λ l. let u = position_rises x.factor.n S r s c (range p).0 l (member_is p) in omega arith)
      (λ l. let u = position_rises x.factor.n S s r c (range q).0 l (member_is q) in omega arith)

  pub selected_counts : Counts x (position x.factor.n (selected_set x))
  selected_counts = record {
    below = λ r c p. position_below x.factor.n S r c x.factor.n (range p).0 (range p).1 (omega (arith, (range p).0, (range p).1)) (member_is p);
    own = λ r c s d p q e.
        let column : c ≡ d = neither_below c d
        (λ l. let u = earlier r c s d p q l in omega arith)
        (λ l. let u = earlier s d r c q p l in omega arith) in
        (same_column r s d (subst (λ (k : ℕ). InClosedSet x r k) column p) q (ap (position x.factor.n S r) (sym column) ∙ e), column);
    each = λ k l.
        let f = position_onto x.factor.n S x.factor.n k (omega arith) l in
        (f.0, f.1, (member_needed x.factor.n pat x.requests P A.requests f.0 f.1 f.2 f.3).0 f.4, f.5);
  }
