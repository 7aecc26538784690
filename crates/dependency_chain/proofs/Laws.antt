-- Laws of specs/Laws.antt.
use Rattle.std.specs.Prelude.{ℕ, ◌-◌, ◌*◌, ◌≤◌, ◌<◌, min, max, ◌≡◌, Bool, ◌↔◌, List, [], length}
use Rattle.std.proofs.Common.{arith, ltb-false, leb-false}
use Rattle.refusal.specs.Steps.{Passed}
use Rattle.refusal.proofs.Steps.{passed_clear, passed_front}
use Rattle.refusal.proofs.Groups.{groups_passed}
use Rattle.columns.specs.Columns.{bound_steps}
use Rattle.columns.proofs.Factor.{bound_steps-sound}
use Rattle.columns.proofs.Stored.{stored_steps-sound}
use Rattle.columns.specs.Kept.{nonzero, pattern}
use Rattle.closed_set.specs.ClosedSet.{Needed, Pattern, Ranged}
use Rattle.closed_set.specs.Requests.{requested}
use Rattle.closed_set.proofs.Requests.{requested_ranged}
use Rattle.closed_set.proofs.FactorPattern.{factor_pattern}
use Rattle.chains.specs.Chain.{Shown}
use Rattle.chains.proofs.ChainOf.{chain_shown, chain_empty, chain_of_needed, chain_of_most}
use Rattle.selection.specs.RequestSteps.{request_bound_steps}
use Rattle.selection.proofs.RequestSteps.{request_steps-sound}
use Rattle.dependency_chain.specs.Chain.{ChainCall, chain_to, seek_steps, asked_groups, asked_steps}
use Rattle.dependency_chain.specs.Laws.{SeekInput}

-- the steps pass only for a call that has this
pub asked_accepted : (x : ChainCall) (s : List ℕ) → Passed (asked_steps x (length s))
    → SeekInput x.factor.n x.factor.starts x.factor.rows (length x.factor.values) x.request_rows x.request_columns (max x.row x.column) (min x.row x.column) s
unfolding asked_steps seek_steps
asked_accepted x s p =
    let g = groups_passed (asked_groups x (length s)) p in
    let k = passed_clear (seek_steps x.factor.n (length s) x.row x.column) g.1.1.1.1.0 in
    let a = leb-false x.factor.n x.row k.1.0 in
    let b = leb-false x.factor.n x.column k.1.1.0 in
    record {
      small = (bound_steps-sound x.factor.n (length x.factor.rows) (passed_front (bound_steps x.factor.n (length x.factor.rows)) (request_bound_steps (length x.request_rows)) g.0)).small;
      factor = stored_steps-sound x.factor g.1.0;
      requests = request_steps-sound x.factor.n x.dimension x.request_rows x.request_columns g.1.1.0;
      ordered = omega arith;
      inside = omega (arith, a, b);
      room = ltb-false _ _ k.0;
    }

-- what the answer means, of a call that is not refused before the chain is looked for
module _ (x : ChainCall) (s : List ℕ) (p : Passed (asked_steps x (length s))) where
  abbrev desc : ℕ → List ℕ
  desc = pattern x.factor.starts x.factor.rows (nonzero x.factor.values)

  abbrev req : ℕ → ℕ → Bool
  req = requested x.request_rows x.request_columns

  asked_pattern : Pattern x.factor.n desc
  asked_pattern = factor_pattern (nonzero x.factor.values) (asked_accepted x s p).factor

  asked_ranged : Ranged x.factor.n req
  asked_ranged = requested_ranged x.request_rows x.request_columns x.factor.n (asked_accepted x s p).requests

  -- of a pair of the closed set: a chain, none is shorter, and going back from the end it is lower than any other as short
  pub asked_shown : Needed desc req (max x.row x.column) (min x.row x.column)
      → Shown desc req (chain_to x) (max x.row x.column) (min x.row x.column)
  asked_shown needed = chain_shown x.factor.n desc req asked_pattern asked_ranged needed

  -- of at most 2n - 1 pairs
  pub asked_most : length (chain_to x) ≤ 2 * x.factor.n - 1
  asked_most =
      let I = asked_accepted x s p in
      chain_of_most x.factor.n desc req asked_pattern asked_ranged (max x.row x.column) (min x.row x.column) I.ordered I.inside

  -- of a pair of the set, if there are any
  pub asked_needed : 0 < length (chain_to x) → Needed desc req (max x.row x.column) (min x.row x.column)
  asked_needed some =
      let I = asked_accepted x s p in
      chain_of_needed x.factor.n desc req asked_pattern asked_ranged (max x.row x.column) (min x.row x.column) I.ordered I.inside some

  -- no pairs exactly if it is not in the set
  pub asked_none : (chain_to x ≡ []) ↔ (Needed desc req (max x.row x.column) (min x.row x.column) → ⊥)
  asked_none =
      let I = asked_accepted x s p in
      chain_empty x.factor.n desc req asked_pattern asked_ranged (max x.row x.column) (min x.row x.column) I.ordered I.inside
