-- The closure of a call's requests: what it asks, its count and diagnosis, and the words that it leaves.
-- Assumes nothing.
use Rattle.std.specs.Prelude.{ℕ, ◌+◌, ◌≤◌, ◌<◌, ◌≡◌, Bool, ◌&&◌, List, leb, ltb, length, drop}
use Rattle.std.proofs.Common.{sym, ap₂, leb-true, ltb-true, le-leb, lt-ltb}
use Rattle.lists.specs.Test.{and_left, and_right}
use Rattle.refusal.specs.Bounds.{max_dimension}
use Rattle.pairs.specs.Pair.{pair_total}
use Rattle.pairs.specs.Scratch.{queue_start}
use Rattle.pairs.specs.ColumnOrder.{column_marking}
use Rattle.columns.specs.Factor.{Factor}
use Rattle.closure.specs.Nested.{Unlisted}
use Rattle.closed_set.specs.ClosedSet.{member, Ranged}
use Rattle.closed_set.specs.Size.{closure_size}
use Rattle.diagnostics.specs.declared.SelectedInverseDiagnostics.{SelectedInverseDiagnostics}
use Rattle.selection.specs.Diagnosis.{closure_pairs, diagnosis_of}
use Rattle.marked_pairs.specs.MarkedPairs.{Marked, ColumnsReached}

-- a factor past its checks, a list for the stops of its columns, and words with `requested` marked pairs
pub record ClosureInput (n : ℕ) (starts rows : List ℕ) (values requested : ℕ) (stops s : List ℕ) : Type 0 where
  pub small : n ≤ max_dimension
  pub factor : Factor n starts rows values
  pub unlisted : Unlisted n stops
  pub marked : Marked n s requested

-- the marked pairs are those of the set
pub record Requested (n : ℕ) (req : ℕ → ℕ → Bool) (s : List ℕ) : Type 0 where
  pub ranged : Ranged n req
  pub marks : (r c : ℕ) → c ≤ r → r < n → column_marking n s r c ≡ req r c

-- there is such a set
abbrev pub marked_set : ℕ → List ℕ → ℕ → ℕ → Bool
marked_set n s r c = leb c r && (ltb r n && column_marking n s r c)

pub marked_requested : (n : ℕ) (s : List ℕ) → Requested n (marked_set n s) s
marked_requested n s = record {
  ranged = record {
    ordered = λ r c e. leb-true c r (and_left (leb c r) _ e);
    inside = λ r c e. ltb-true r n (and_left (ltb r n) _ (and_right (leb c r) _ e));
  };
  marks = λ r c h l. sym (ap₂ (λ (a b : Bool). a && (b && column_marking n s r c)) (le-leb c r h) (lt-ltb r n l));
}

-- the words that closing leaves: where the set is within the limit its marks, with the stops of their columns listed, and in any case the words
-- behind the queue as they were
pub record Closing (n : ℕ) (desc : ℕ → List ℕ) (req : ℕ → ℕ → Bool) (limit : ℕ) (s₀ stops s : List ℕ) : Type 0 where
  pub long : length s ≡ length s₀
  pub marks : closure_size n desc req ≤ limit → (r c : ℕ) → c ≤ r → r < n → column_marking n s r c ≡ member n desc req r c
  pub reached : closure_size n desc req ≤ limit → ColumnsReached n s stops
  pub later : drop (queue_start n + pair_total n) s ≡ drop (queue_start n + pair_total n) s₀

-- the count and the words of closing the marked pairs of s₀, whatever set they are
pub record Closes (n : ℕ) (desc : ℕ → List ℕ) (limit : ℕ) (s₀ : List ℕ) (count : ℕ) (stops s : List ℕ) : Type 0 where
  pub counts : (req : ℕ → ℕ → Bool) → Requested n req s₀ → count ≡ closure_pairs n desc req limit
  pub leaves : (req : ℕ → ℕ → Bool) → Requested n req s₀ → Closing n desc req limit s₀ stops s

-- the diagnosis of the marked pairs of s₀, whatever set they are, with a count of kept pairs, and the words that closing leaves
pub record Diagnoses (n : ℕ) (desc : ℕ → List ℕ) (kept limit : ℕ) (s₀ : List ℕ) (d : SelectedInverseDiagnostics) (stops s : List ℕ) : Type 0 where
  pub answers : (req : ℕ → ℕ → Bool) → Requested n req s₀ → d ≡ diagnosis_of n desc kept req limit
  pub leaves : (req : ℕ → ℕ → Bool) → Requested n req s₀ → Closing n desc req limit s₀ stops s
