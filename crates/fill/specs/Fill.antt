-- Filling result lists from marked pairs: what it asks and leaves.
-- Assumes nothing.
use Rattle.std.specs.Prelude.{ℕ, ◌+◌, ◌≡◌, Bool, true, List, [], length, Float}
use Rattle.std.proofs.Common.{arith, ◌∙◌, subst}
use Rattle.lists.specs.Overwrite.{cleared}
use Rattle.diagnostics.specs.declared.SelectedInverseDiagnostics.{SelectedInverseDiagnostics}
use Rattle.refusal.specs.Steps.{Step, Passed}
use Rattle.pairs.specs.Pair.{pair_total}
use Rattle.pairs.specs.Scratch.{queue_start}
use Rattle.pairs.proofs.Scratch.{scratch_words_queue}
use Rattle.marked_pairs.specs.MarkedPairs.{Marked, MarkedPairs}
use Rattle.closure.specs.Closure.{Requested, marked_set, marked_requested}
use Rattle.columns.specs.Columns.{FactorLists}
use Rattle.columns.specs.Form.{Form}
use Rattle.entries.specs.Position.{Positioned}
use Rattle.selection.specs.Selection.{selecting, lists, Lent, room_of, scratch_words, Accepted, selected_set, selected_complete, selected_answer, ResultLists, filling_of}
use Rattle.selection.proofs.Selection.{lists_passed, passed_starts, passed_rows, passed_values, passed_scratch, nothing-refused, cleared_same}

-- a call past its checks, with the requested pairs marked in the scratch
pub record FillInput (form : Form) (factor : FactorLists Float) (requested limit : ℕ) (lent : Lent) : Type 0 where
  pub marked : Marked factor.n lent.scratch requested
  pub accepted : Accepted (selecting form factor (marked_set factor.n lent.scratch) limit) (room_of lent)

-- the diagnosis and the lists, whatever set the marked pairs are
pub record Fills (form : Form) (factor : FactorLists Float) (limit : ℕ) (lent : Lent) (d : SelectedInverseDiagnostics) (left : Lent) : Type 0 where
  pub answers : (req : ℕ → ℕ → Bool) → Requested factor.n req lent.scratch → d ≡ selected_answer (selecting form factor req limit)
  pub leaves : (req : ℕ → ℕ → Bool) → Requested factor.n req lent.scratch → ResultLists [] (filling_of (selecting form factor req limit)) lent left

-- lists whose scratch is cleared
abbrev pub with_cleared : ℕ → Lent → Lent
with_cleared n left = lists left.result_starts left.result_rows left.result_values (cleared (scratch_words n) left.scratch)

-- the same before the scratch is cleared: where the set is within the limit, its members' positions stand in it
pub record FillsLists (form : Form) (factor : FactorLists Float) (limit : ℕ) (lent : Lent) (d : SelectedInverseDiagnostics) (left : Lent) : Type 0 where
  pub fills : Fills form factor limit lent d (with_cleared factor.n left)
  pub long : length left.scratch ≡ length lent.scratch
  pub positions : (req : ℕ → ℕ → Bool) → Requested factor.n req lent.scratch → selected_complete (selecting form factor req limit) ≡ true
      → Positioned factor.n (selected_set (selecting form factor req limit)) left.scratch

-- ---- once a set of requested pairs is marked

module _ {form : Form} {factor : FactorLists Float} {req : ℕ → ℕ → Bool} {limit : ℕ} (rs₀ rr₀ : List ℕ) (rv₀ : List Float) {s₀ s₁ : List ℕ}
    {count : ℕ} (A : Accepted (selecting form factor req limit) (room_of (lists rs₀ rr₀ rv₀ s₀))) (M : MarkedPairs factor.n req s₀ s₁ count) where
  pub marked_are : Requested factor.n req s₁
  marked_are = record { ranged = A.requests; marks = M.marks }

  -- the lists can be filled
  pub marked_input : FillInput form factor count limit (lists rs₀ rr₀ rv₀ s₁)
  marked_input = record {
    marked = M.marked;
    accepted = record {
      small = A.small;
      few = A.few;
      factor = A.factor;
      finite = A.finite;
      requests = (marked_requested factor.n s₁).ranged;
      diagonals = A.diagonals;
      starts_room = A.starts_room;
      rows_room = A.rows_room;
      values_room = A.values_room;
      scratch_room = omega (arith, A.scratch_room, M.long);
    };
  }

  -- and are those of the call
  module _ {d : SelectedInverseDiagnostics} {left : Lent} (F : Fills form factor limit (lists rs₀ rr₀ rv₀ s₁) d left) where
    pub marked_answer : d ≡ selected_answer (selecting form factor req limit)
    marked_answer = F.answers req marked_are

    pub marked_lists : (steps : List Step) → Passed steps → ResultLists steps (filling_of (selecting form factor req limit)) (lists rs₀ rr₀ rv₀ s₀) left
    marked_lists steps p =
        let L = F.leaves req marked_are in
        let f = filling_of (selecting form factor req limit) in
        let lent = lists rs₀ rr₀ rv₀ s₁ in
        lists_passed steps f (lists rs₀ rr₀ rv₀ s₀) p
        (passed_starts [] f lent nothing-refused L)
        (passed_rows [] f lent nothing-refused L)
        (passed_values [] f lent nothing-refused L)
        (passed_scratch [] f lent nothing-refused L
        ∙ cleared_same (queue_start factor.n + pair_total factor.n) (scratch_words factor.n) s₁ s₀ (scratch_words_queue factor.n) M.later)

-- ---- the limit by another name

module _ {form : Form} {factor : FactorLists Float} {limit other : ℕ} {lent : Lent} {d : SelectedInverseDiagnostics} {left : Lent} (same : limit ≡ other) where
  pub fills_limit : Fills form factor limit lent d left → Fills form factor other lent d left
  fills_limit F = subst (λ (k : ℕ). Fills form factor k lent d left) same F

  pub fills_lists_limit : FillsLists form factor limit lent d left → FillsLists form factor other lent d left
  fills_lists_limit F = subst (λ (k : ℕ). FillsLists form factor k lent d left) same F
