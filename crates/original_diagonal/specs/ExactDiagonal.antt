-- The exact case of the diagonal in original order, in whole numbers and beyond unit diagonals: output i is the exact variance of original cell i.
-- Assumes nothing.
use Rattle.std.specs.Prelude.{ℕ, ◌^◌, ◌≤◌, ◌<◌, ◌≡◌, List, length, ℤ, pos, Float, Result}
use Rattle.refusal.specs.Steps.{refused, answered, Passed}
use Rattle.integers.specs.Matrix.{Matrix}
use Rattle.integers.specs.Inverse.{Inverse, WholeInverse}
use Rattle.takahashi.specs.Entries.{Entry}
use Rattle.exact.specs.Factor.{factor}
use Rattle.exact.specs.ExactCase.{ones}
use Rattle.diagnostics.specs.declared.SelectedInverseDiagnostics.{SelectedInverseDiagnostics}
use Rattle.selection.specs.Selection.{Lent, room_of, default_limit, selected_size, selected_answer, ResultLists, filling_of}
use Rattle.exact_entries.specs.DyadicEntries.{DyadicCall}
use Rattle.exact_entries.specs.ExactEntries.{ExactCall}
use Rattle.original_diagonal_with_limit.specs.ExactDiagonal as general
use Rattle.original_diagonal.specs.Original.{OriginalCall, with_default, original_selection, original_steps, original_after, OriginalDiagonal}
use Rattle.refusal.specs.declared.Refusal.{Refusal}
use Rattle.refusal.specs.Refusal.{reply_of}

-- X is what reads back, and its diagonal in original order what the output holds
abbrev pub OriginalExact : OriginalCall → Lent → List Float → Matrix → Type 0
OriginalExact x = general.OriginalExact (with_default x)

-- P / Q is what reads back, by multipliers of 2 ^ -s, and its diagonal in original order what the output holds
abbrev pub OriginalMultiples : OriginalCall → Lent → List Float → ℕ → Matrix → Matrix → ℕ → Type 0
OriginalMultiples x = general.OriginalMultiples (with_default x)

module _ (x : OriginalCall) (lent : Lent) (output : List Float) (passed : Passed (original_steps x (room_of lent) (length output))) where
  pub original_exact : (whole : ℕ → List (Entry ℤ)) → ExactCall (original_selection x) whole → (X : Matrix) → WholeInverse x.factor.n (factor ones whole) X
      → {left : Lent} → ResultLists (original_steps x (room_of lent) (length output)) (filling_of (original_selection x)) lent left
      → OriginalExact x left (original_after x lent output) X
  original_exact = general.original_exact (with_default x) lent output passed

  pub original_dyadic : (s : ℕ) (d : ℕ → ℤ) (l : ℕ → List (Entry ℤ)) (z : Matrix) → DyadicCall (original_selection x) s d l z → (P : Matrix) (Q : ℕ)
      → Inverse x.factor.n (pos (2 ^ s)) (factor d l) P Q
      → {left : Lent} → ResultLists (original_steps x (room_of lent) (length output)) (filling_of (original_selection x)) lent left
      → OriginalMultiples x left (original_after x lent output) s z P Q
  original_dyadic = general.original_dyadic (with_default x) lent output passed

-- ---- of a reply
module _ (x : OriginalCall) (lent : Lent) (output : List Float) {reply : Result SelectedInverseDiagnostics Refusal} {left : Lent} {out : List Float}
    (C : OriginalDiagonal x lent output reply left out) where
  module _ (passed : Passed (original_steps x (room_of lent) (length output))) where
    -- past the checks, a set within the limit is answered with the diagnosis
    pub within_reply : selected_size (original_selection x) ≤ default_limit x.factor.rows → reply_of reply ≡ answered (selected_answer (original_selection x))
    within_reply = general.within_reply (with_default x) lent output C passed

    -- any other is refused with 8
    pub beyond-reply : default_limit x.factor.rows < selected_size (original_selection x) → reply_of reply ≡ refused 8
    beyond-reply = general.beyond-reply (with_default x) lent output C passed

  module _ {d : SelectedInverseDiagnostics} (answer : reply_of reply ≡ answered d) where
    -- demand 3, of the reply: d is the diagnosis, Complete, X is what reads back, and its diagonal in original order is the output
    pub original_exact_reply : (whole : ℕ → List (Entry ℤ)) → ExactCall (original_selection x) whole
        → (X : Matrix) → WholeInverse x.factor.n (factor ones whole) X
        → (d ≡ selected_answer (original_selection x)) × (selected_size (original_selection x) ≤ default_limit x.factor.rows) × OriginalExact x left out X
    original_exact_reply = general.original_exact_reply (with_default x) lent output C answer

    -- beyond unit diagonals, of the reply: the same, with P / Q by multipliers of 2 ^ -s
    pub original_dyadic_reply : (s : ℕ) (m : ℕ → ℤ) (l : ℕ → List (Entry ℤ)) (z : Matrix) → DyadicCall (original_selection x) s m l z
        → (P : Matrix) (Q : ℕ) → Inverse x.factor.n (pos (2 ^ s)) (factor m l) P Q
        → (d ≡ selected_answer (original_selection x)) × (selected_size (original_selection x) ≤ default_limit x.factor.rows) × OriginalMultiples x left out s z P Q
    original_dyadic_reply = general.original_dyadic_reply (with_default x) lent output C answer
