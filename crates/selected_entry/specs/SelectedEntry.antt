-- One selected entry: what a call for selected entries and a lookup in its result reply together, and that the reply is exact.
-- Assumes nothing.
use Rattle.std.specs.Prelude.{ℕ, ◌+◌, ◌^◌, ◌≤◌, ◌<◌, max, min, ◌≡◌, Bool, true, false, List, length, take, ℤ, pos, ◌*ℤ◌, Float, Ok, Err, Result}
use Rattle.refusal.specs.Bounds.{max_dimension}
use Rattle.refusal.specs.Steps.{Reply, refused, answered, verdict}
use Rattle.refusal.specs.Refusal.{refusal_number, reply_of}
use Rattle.integers.specs.Matrix.{Matrix}
use Rattle.integers.specs.Inverse.{Inverse, WholeInverse}
use Rattle.takahashi.specs.Entries.{Entry}
use Rattle.takahashi.specs.Recurrence.{at}
use Rattle.exact.specs.Multiple.{Multiple, Whole}
use Rattle.exact.specs.Factor.{factor}
use Rattle.exact.specs.ExactCase.{ones}
use Rattle.diagnostics.specs.declared.SelectedInverseStatus.{SelectedInverseStatus}
use Rattle.diagnostics.specs.declared.SelectedInverseStatus.TheVariants as status
use Rattle.selection.specs.Selection.{Lent, Room, room_of, selected_set, selected_size, selected_complete, selected_table, ResultLists, filling_of}
use Rattle.selection.specs.Call.{Call, selection_of, selected_steps}
use Rattle.result.specs.Lookup.{lookup}
use Rattle.exact_entries.specs.ReadBack.{read_back}
use Rattle.exact_entries.specs.Recurrence.{InClosedSet}
use Rattle.exact_entries.specs.DyadicEntries.{DyadicCall}
use Rattle.exact_entries.specs.ExactEntries.{ExactCall}
use Rattle.selected_entry.specs.declared.SelectedEntry.{SelectedEntry}
use Rattle.selected_entry.specs.declared.SelectedEntry.TheVariants.{Found, ClosureTooLarge, Refused}
use Rattle.refusal.specs.declared.Refusal.{Refusal}
use Rattle.diagnostics.specs.declared.SelectedInverseDiagnostics.{SelectedInverseDiagnostics}

-- the call is refused with a number, the closed set is beyond the limit, or the lookup replies
pub data EntryAnswer : Type 0 where
  refused_with : ℕ → EntryAnswer
  too_large : EntryAnswer
  looked : Reply Float → EntryAnswer

-- what a reply says
abbrev pub answer_of : SelectedEntry → EntryAnswer
answer_of (Found e) = looked (reply_of e)
answer_of ClosureTooLarge = too_large
answer_of (Refused why) = refused_with (refusal_number why)

-- from the call's verdict, whether the set is within the limit, and what reads back
abbrev pub answer_from : Reply (Unit {0}) → Bool → Reply Float → EntryAnswer
answer_from (refused k) complete z = refused_with k
answer_from (answered u) false z = too_large
answer_from (answered u) true z = looked z

-- what a call with lists of these lengths and a lookup answer
unfoldable pub entry_answer : Call → Room → ℕ → ℕ → EntryAnswer
entry_answer x lengths row col =
    answer_from (verdict (selected_steps x lengths)) (selected_complete (selection_of x))
    (read_back x.factor.n (selected_set (selection_of x)) (selected_table (selection_of x)) row col)

-- the exact case of an accepted call: the set is within the limit and the pair reads back as X's entry, or as absent if it is not in the set; or the set is
-- beyond the limit
abbrev pub Exact : Call → ℕ → ℕ → Matrix → SelectedEntry → Type 0
Exact x row col X (Found e) =
    (selected_size (selection_of x) ≤ x.limit)
    × (InClosedSet (selection_of x) (max row col) (min row col) → (v : Float) × (reply_of e ≡ answered v) × Whole v (X row col))
    × ((InClosedSet (selection_of x) (max row col) (min row col) → ⊥) → reply_of e ≡ refused 8)
Exact x row col X ClosureTooLarge = x.limit < selected_size (selection_of x)
Exact x row col X (Refused why) = Unit {0}

-- the same beyond unit diagonals: the pair reads back as z / 2 ^ s, where z * Q = 2 ^ s * P
abbrev pub Dyadic : Call → ℕ → ℕ → ℕ → Matrix → Matrix → ℕ → SelectedEntry → Type 0
Dyadic x row col s z P Q (Found e) =
    (selected_size (selection_of x) ≤ x.limit)
    × (InClosedSet (selection_of x) (max row col) (min row col)
    → (v : Float) × (reply_of e ≡ answered v) × Multiple s v (at z row col) × (at z row col *ℤ pos Q ≡ pos (2 ^ s) *ℤ P row col))
    × ((InClosedSet (selection_of x) (max row col) (min row col) → ⊥) → reply_of e ≡ refused 8)
Dyadic x row col s z P Q ClosureTooLarge = x.limit < selected_size (selection_of x)
Dyadic x row col s z P Q (Refused why) = Unit {0}

-- the reply, the lists as the call leaves them, and the exact case for every inverse of L * Lᵀ: X in whole numbers, P / Q beyond unit diagonals
pub record ReadEntry (x : Call) (lent : Lent) (row col : ℕ) (reply : SelectedEntry) (left : Lent) : Type 0 where
  pub replies : answer_of reply ≡ entry_answer x (room_of lent) row col
  pub exact : (whole : ℕ → List (Entry ℤ)) → ExactCall (selection_of x) whole → (X : Matrix) → WholeInverse x.factor.n (factor ones whole) X → Exact x row col X reply
  pub dyadic : (s : ℕ) (d : ℕ → ℤ) (l : ℕ → List (Entry ℤ)) (z : Matrix) → DyadicCall (selection_of x) s d l z → (P : Matrix) (Q : ℕ)
      → Inverse x.factor.n (pos (2 ^ s)) (factor d l) P Q → Dyadic x row col s z P Q reply
  pub lists_are : ResultLists (selected_steps x (room_of lent)) (filling_of (selection_of x)) lent left

-- ---- the lookup after the call's answer

-- an answer comes with starts to look up in
abbrev pub LookUpInput : ℕ → List ℕ → Result SelectedInverseDiagnostics Refusal → Type 0
LookUpInput n starts (Ok d) = (n ≤ max_dimension) × (n + 1 ≤ length starts)
LookUpInput n starts (Err why) = Unit {0}

abbrev pub LookedAt : ℕ → ℕ → ℕ → List ℕ → List ℕ → List Float → SelectedInverseStatus → SelectedEntry → Type 0
LookedAt n row col starts rows values status.Complete r =
    (e : Result Float Refusal) × (r ≡ Found e) × (reply_of e ≡ lookup (take (n + 1) starts) rows values row col)
LookedAt n row col starts rows values status.ClosureTooLarge r = r ≡ ClosureTooLarge

-- a refusal stays, and a result is looked up in
abbrev pub LookUpResult : ℕ → ℕ → ℕ → List ℕ → List ℕ → List Float → Result SelectedInverseDiagnostics Refusal → SelectedEntry → Type 0
LookUpResult n row col starts rows values (Ok d) r = LookedAt n row col starts rows values d.status r
LookUpResult n row col starts rows values (Err why) r = r ≡ Refused why
