-- What a struct of numbers says of a call's answer.
-- Assumes nothing.
use Rattle.std.specs.Prelude.{ℕ, ◌≡◌, ℤ, pos, Float}
use Rattle.refusal.specs.Steps.{Reply, refused, answered}
use Rattle.columns.specs.Kept.{f0}
use Rattle.diagnostics.specs.declared.SelectedInverseStatus.{SelectedInverseStatus}
use Rattle.diagnostics.specs.declared.SelectedInverseStatus.TheVariants.{Complete, ClosureTooLarge}
use Rattle.diagnostics.specs.declared.SelectedInverseDiagnostics.{SelectedInverseDiagnostics}
use Rattle.floor.specs.declared.StabilizedVariance.{StabilizedVariance}
use Rattle.least.specs.declared.CountAndLeast.{CountAndLeast}
use Rattle.c_replies.specs.declared.SelectedNumbers.{SelectedNumbers}
use Rattle.c_replies.specs.declared.EntryNumbers.{EntryNumbers}
use Rattle.c_replies.specs.declared.CountedNumbers.{CountedNumbers}
use Rattle.c_replies.specs.declared.WholeEntryNumbers.{WholeEntryNumbers}
use Rattle.c_replies.specs.declared.BoundsNumbers.{BoundsNumbers}
use Rattle.c_replies.specs.declared.PairNumbers.{PairNumbers}
use Rattle.c_replies.specs.declared.RequestsNumbers.{RequestsNumbers}
use Rattle.c_replies.specs.declared.BytesNumbers.{BytesNumbers}
use Rattle.c_replies.specs.declared.FloorNumbers.{FloorNumbers}
use Rattle.c_replies.specs.declared.LeastNumbers.{LeastNumbers}

-- a status by its number
abbrev pub status_number : SelectedInverseStatus → ℕ
status_number Complete = 0
status_number ClosureTooLarge = 1

-- a call that selects entries: its diagnosis, or its refusal and else 0
abbrev pub selected_numbers : Reply SelectedInverseDiagnostics → SelectedNumbers
selected_numbers (answered d) = record {
  refusal = 0;
  status = status_number d.status;
  requested_pairs = d.requested_pairs;
  closure_pairs = d.closure_pairs;
  factor_pairs = d.factor_pairs;
  closure_limit = d.closure_limit;
  closure_over_factor = d.closure_over_factor;
}
selected_numbers (refused k) = record {
  refusal = k;
  status = 0;
  requested_pairs = 0;
  closure_pairs = 0;
  factor_pairs = 0;
  closure_limit = 0;
  closure_over_factor = f0;
}

-- a lookup
abbrev pub entry_numbers : Reply Float → EntryNumbers
entry_numbers (answered z) = record { refusal = 0; value = z }
entry_numbers (refused k) = record { refusal = k; value = f0 }

-- a lookup that counts the places it looks at
abbrev pub counted_numbers : Reply Float → ℕ → CountedNumbers
counted_numbers reply looks = record { refusal = (entry_numbers reply).refusal; value = (entry_numbers reply).value; looks = looks }

-- a lookup in a result of whole numbers
abbrev pub whole_entry_numbers : Reply ℤ → WholeEntryNumbers
whole_entry_numbers (answered z) = record { refusal = 0; value = z }
whole_entry_numbers (refused k) = record { refusal = k; value = pos 0 }

-- the bounds on a row's variance
abbrev pub bounds_numbers : Reply (ℤ × ℤ) → BoundsNumbers
bounds_numbers (answered b) = record { refusal = 0; low = b.0; high = b.1 }
bounds_numbers (refused k) = record { refusal = k; low = pos 0; high = pos 0 }

-- a pattern list: how many pairs were listed
abbrev pub pair_numbers : Reply ℕ → PairNumbers
pair_numbers (answered count) = record { refusal = 0; pairs = count }
pair_numbers (refused k) = record { refusal = k; pairs = 0 }

-- a file of requests: its dimension, and how many requests were written
abbrev pub requests_numbers : Reply (ℕ × ℕ) → RequestsNumbers
requests_numbers (answered a) = record { refusal = 0; dimension = a.0; requests = a.1 }
requests_numbers (refused k) = record { refusal = k; dimension = 0; requests = 0 }

-- requests as a file: how many bytes were written
abbrev pub bytes_numbers : Reply ℕ → BytesNumbers
bytes_numbers (answered count) = record { refusal = 0; bytes = count }
bytes_numbers (refused k) = record { refusal = k; bytes = 0 }

-- the floor, and how many values were raised to it
abbrev pub floor_numbers : Reply StabilizedVariance → FloorNumbers
floor_numbers (answered s) = record { refusal = 0; floor = s.floor; floor_hits = s.floor_hits }
floor_numbers (refused k) = record { refusal = k; floor = f0; floor_hits = 0 }

-- count and least
abbrev pub least_numbers : CountAndLeast → LeastNumbers
least_numbers x = record { num_negative = x.num_negative; min_value = x.min_value }

-- the struct shows the answer of the library's call
pub record Shows {A N : Type 0} (numbers : A → N) (Call : A → Type 0) (r : N) : Type 0 where
  pub answer : A
  pub shown : r ≡ numbers answer
  pub called : Call answer

-- ---- laws
pub selected_numbers-answered : (d : SelectedInverseDiagnostics) {k : ℕ} → k ≡ status_number d.status →
    record {
      refusal = 0;
      status = k;
      requested_pairs = d.requested_pairs;
      closure_pairs = d.closure_pairs;
      factor_pairs = d.factor_pairs;
      closure_limit = d.closure_limit;
      closure_over_factor = d.closure_over_factor;
    }
    ≡ selected_numbers (answered d)
selected_numbers-answered d e = rw (← e)
