-- What the calls that write by a permutation reply and leave. `perm` is orig_to_perm; an output is given as it was lent, then as it is left.
-- Assumes nothing.
use Rattle.std.specs.Prelude.{ℕ, ◌≡◌, List, length, Float}
use Rattle.std.specs.Float.{nan}
use Rattle.lists.specs.Overwrite.{overwrite}
use Rattle.refusal.specs.Steps.{Reply, verdict, after}
use Rattle.factor_order.specs.Permutation.{invert_steps, permute_steps, marked_steps, inverse_of, reordered}

-- the inverse list at the front of the output
pub record PermutationInverted (perm output : List ℕ) (reply : Reply (Unit {0})) (left : List ℕ) : Type 0 where
  pub replies : reply ≡ verdict (invert_steps perm (length output))
  pub inverse_after : left ≡ after (invert_steps perm (length output)) (overwrite (inverse_of perm) output) output

-- the values in original order at the front of the output
pub record ValuesReordered (perm : List ℕ) (input output : List Float) (reply : Reply (Unit {0})) (left : List Float) : Type 0 where
  pub replies : reply ≡ verdict (permute_steps perm input (length output))
  pub output_after_lem : left ≡ after (permute_steps perm input (length output)) (overwrite (reordered nan perm input) output) output

-- the values and their marks in original order at the front of two outputs
pub record MarkedValuesReordered (perm : List ℕ) (input : List Float) (marks : List ℕ) (output : List Float) (outputMarks : List ℕ)
    (reply : Reply (Unit {0})) (left : List Float) (leftMarks : List ℕ) : Type 0 where
  pub replies : reply ≡ verdict (marked_steps perm (length input) (length marks) (length output) (length outputMarks))
  pub output_after_lem : left ≡ after (marked_steps perm (length input) (length marks) (length output) (length outputMarks)) (overwrite (reordered nan perm input) output) output
  pub marks_after :
      leftMarks ≡ after (marked_steps perm (length input) (length marks) (length output) (length outputMarks)) (overwrite (reordered 0 perm marks) outputMarks) outputMarks
