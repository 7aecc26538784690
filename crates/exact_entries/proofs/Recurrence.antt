-- Laws of specs/Recurrence.antt.
use Rattle.std.specs.Prelude.{ℕ, ◌+◌, ◌≤◌, ◌≡◌, Bool, cond, List, take, length, Float}
use Rattle.std.proofs.Common.{arith, ap, subst, ◌∙◌, le-leb}
use Rattle.std.specs.Float.{nan}
use Rattle.refusal.specs.Steps.{Step, refused, answered, Passed}
use Rattle.pairs.specs.Pair.{pair_total}
use Rattle.columns.specs.Columns.{factor_lists}
use Rattle.columns.specs.Kept.{nonzero, desc}
use Rattle.columns.specs.Form.{Form, divisor}
use Rattle.columns.specs.Numbers.{Numbers}
use Rattle.columns.proofs.Numbers.{numbers}
use Rattle.closed_set.specs.ClosedSet.{Pattern}
use Rattle.closed_set.proofs.ClosedSet.{needed_range, needed_member}
use Rattle.closed_set.proofs.Size.{closure_size_most}
use Rattle.takahashi.specs.Recurrence.{at, Lower, Solves}
use Rattle.takahashi.proofs.Recurrence.{solves_part}
use Rattle.exact.specs.Exact.{floats}
use Rattle.closed_set.proofs.FactorPattern.{factor_pattern}
use Rattle.entries.specs.Entries.{below_step, diagonal_step}
use Rattle.result.specs.Counted.{lookup_looks}
use Rattle.result.specs.Halving.{lookup_within}
use Rattle.result.proofs.Halving.{within_lookup}
use Rattle.exact_entries.specs.ReadBack.{read_back}
use Rattle.exact_entries.proofs.ReadBack.{result_left, lookup_left, looks_left, needed_covered, other_covered}
use Rattle.selection.specs.Selection.{Selection, selection, Lent, Room, room_of, Accepted, selected_set, selected_size, selected_table, selected_pattern}
use Rattle.selection.specs.Selection.{filling_of, ResultLists}
use Rattle.selection.proofs.Status.{selected_complete_lem}
use Rattle.entries.proofs.Descendants.{form_solves}
use Rattle.exact_entries.specs.Recurrence.{InClosedSet, found, SolvesRecurrence, ReadsRecurrence}

-- of L with L * Lᵀ the recurrence's diagonals are finite and above 0.0, its other numbers finite
pub selected_numbers_lem : (n : ℕ) (starts rows : List ℕ) (values : List Float) (requests : ℕ → ℕ → Bool) (limit : ℕ) (lengths : Room)
    → Accepted (selection (factor_lists n starts rows values) requests limit) lengths → Numbers n starts rows values
selected_numbers_lem n starts rows values requests limit lengths A = numbers values A.factor A.finite A.diagonals

-- ---- an accepted selection, and the lists that a call leaves
module _ (x : Selection) (lent : Lent) (A : Accepted x (room_of lent)) where
  abbrev pat : ℕ → List ℕ
  pat = selected_pattern x

  pub selected_pattern_lem : Pattern x.factor.n pat
  selected_pattern_lem = factor_pattern (nonzero x.factor.values) A.factor

  -- f64's table solves the recurrence over the set
  pub table_recurs : SolvesRecurrence x (selected_table x)
  table_recurs =
      solves_part floats (below_step x.form) (diagonal_step x.form) (divisor x.factor.n x.factor.starts x.factor.rows x.factor.values x.form)
      (desc x.factor.starts x.factor.rows x.factor.values) (InClosedSet x) (Lower x.factor.n) (selected_table x)
      (λ i j p. needed_range pat x.requests x.factor.n selected_pattern_lem A.requests p)
      (form_solves x.form x.factor.values A.factor)

  -- with the last steps of the form that the factor is known to have
  pub table_recurs_as : {f : Form} → x.form ≡ f
      → Solves floats (below_step f) (diagonal_step f) (divisor x.factor.n x.factor.starts x.factor.rows x.factor.values f)
      (desc x.factor.starts x.factor.rows x.factor.values) (InClosedSet x) (selected_table x)
  table_recurs_as e =
      subst
      (λ (f : Form).
      Solves floats (below_step f) (diagonal_step f) (divisor x.factor.n x.factor.starts x.factor.rows x.factor.values f)
      (desc x.factor.starts x.factor.rows x.factor.values) (InClosedSet x) (selected_table x))
      e table_recurs

  module _ (steps : List Step) (passed : Passed steps) {left : Lent} (L : ResultLists steps (filling_of x) lent left) where
    most : selected_size x ≤ pair_total x.factor.n
    most = closure_size_most x.factor.n pat x.requests

    -- the lookup finds the set's entries
    pub found_entries : selected_size x ≤ x.limit → (row col : ℕ) → found x left row col ≡ read_back x.factor.n (selected_set x) (selected_table x) row col
    found_entries h =
        lookup_left nan (filling_of x) lent (omega (arith, most, A.rows_room)) (omega (arith, most, A.values_room)) steps passed L (le-leb _ _ h)

    -- and the lookup that checks no column finds the same
    pub found_within : selected_size x ≤ x.limit → (row col : ℕ)
        → lookup_within (take (x.factor.n + 1) left.result_starts) left.result_rows left.result_values row col ≡ found x left row col
    found_within h =
        within_lookup nan (take (x.factor.n + 1) left.result_starts) left.result_rows left.result_values
        (result_left nan (filling_of x) lent (omega (arith, most, A.rows_room)) (omega (arith, most, A.values_room)) steps passed L (le-leb _ _ h))

    -- and a diagonal of the set at the first place that it looks at
    pub found_looks : selected_size x ≤ x.limit → (c : ℕ) → InClosedSet x c c
        → lookup_looks (take (x.factor.n + 1) left.result_starts) left.result_rows (length left.result_values) c c ≡ 1
    found_looks h c p =
        looks_left nan (filling_of x) lent (omega (arith, most, A.rows_room)) (omega (arith, most, A.values_room)) steps passed L (le-leb _ _ h) c
        (needed_range pat x.requests x.factor.n selected_pattern_lem A.requests p).1
        (needed_member x.factor.n pat x.requests selected_pattern_lem A.requests p)

    -- the recurrence is what reads back
    pub reads_recurrence : ReadsRecurrence x left (selected_table x)
    reads_recurrence = record {
      solves = table_recurs;
      complete = selected_complete_lem x;
      members = λ e row col p.
          found_entries ((selected_complete_lem x).0 e) row col
          ∙ ap (λ (b : Bool). cond b (answered (at (selected_table x) row col)) (refused 8)) (needed_covered x.factor.n pat x.requests selected_pattern_lem A.requests row col p);
      others = λ e row col none.
          found_entries ((selected_complete_lem x).0 e) row col
          ∙ ap (λ (b : Bool). cond b (answered (at (selected_table x) row col)) (refused 8)) (other_covered x.factor.n pat x.requests selected_pattern_lem A.requests row col none);
    }
