-- A call's record, where its steps refuse and where they pass.
-- Assumes nothing.
use Prim.Native.Nat.{ℕ}
use mathlib.Core.Path.{◌≡◌}
use mathlib.Core.List.{List}
use lib.ListN.{length}
use lib.Ieee.{Float, nan}
use Rattle.lists.specs.Overwrite.{overwrite}
use Rattle.refusal.specs.Steps.{refused, answered, verdict, Passed}
use Rattle.refusal.proofs.Steps.{both_refused, both_passed}
use Rattle.factor_order.specs.Permutation.{invert_steps, permute_steps, marked_steps, inverse_of, reordered}
use Rattle.permutation.specs.PermutationCalls.{PermutationInverted, ValuesReordered, MarkedValuesReordered}

module _ (perm output : List ℕ) where
  pub inverted_refused : {k : ℕ} → verdict (invert_steps perm (length output)) ≡ refused k → PermutationInverted perm output (refused k) output
  inverted_refused e = let b = both_refused _ _ _ e in record { replies = b.0; inverse_after = b.1 }

  pub inverted_passed : {left : List ℕ} → Passed (invert_steps perm (length output)) → left ≡ overwrite (inverse_of perm) output
      → PermutationInverted perm output (answered tt) left
  inverted_passed e q = let b = both_passed _ _ e q in record { replies = b.0; inverse_after = b.1 }

module _ (perm : List ℕ) (input output : List Float) where
  pub reordered-refused : {k : ℕ} → verdict (permute_steps perm input (length output)) ≡ refused k → ValuesReordered perm input output (refused k) output
  reordered-refused e = let b = both_refused _ _ _ e in record { replies = b.0; output_after_lem = b.1 }

  pub reordered_passed : {left : List Float} → Passed (permute_steps perm input (length output)) → left ≡ overwrite (reordered nan perm input) output
      → ValuesReordered perm input output (answered tt) left
  reordered_passed e q = let b = both_passed _ _ e q in record { replies = b.0; output_after_lem = b.1 }

module _ (perm : List ℕ) (input : List Float) (marks : List ℕ) (output : List Float) (outputMarks : List ℕ) where
  pub marked_refused : {k : ℕ} → verdict (marked_steps perm (length input) (length marks) (length output) (length outputMarks)) ≡ refused k
      → MarkedValuesReordered perm input marks output outputMarks (refused k) output outputMarks
  marked_refused e = let b = both_refused _ _ _ e in record { replies = b.0; output_after_lem = b.1; marks_after = (both_refused _ _ _ e).1 }

  pub marked_passed : {left : List Float} {leftMarks : List ℕ} → Passed (marked_steps perm (length input) (length marks) (length output) (length outputMarks))
      → left ≡ overwrite (reordered nan perm input) output → leftMarks ≡ overwrite (reordered 0 perm marks) outputMarks
      → MarkedValuesReordered perm input marks output outputMarks (answered tt) left leftMarks
  marked_passed e q m = let b = both_passed _ _ e q in record { replies = b.0; output_after_lem = b.1; marks_after = (both_passed _ _ e m).1 }
