-- What the diagonal list replies and leaves; an output is given as it was lent, then as it is left.
-- Assumes nothing.
use Rattle.std.specs.Prelude.{ℕ, ◌≡◌, List, length, Float}
use Rattle.lists.specs.Overwrite.{overwrite}
use Rattle.refusal.specs.Steps.{Reply, verdict, after}
use Rattle.result.specs.Lookup.{diag_steps, diagonals, coverage}

-- the diagonals of a result and their marks at the front of two outputs
pub record DiagonalsListed (starts rows : List ℕ) (values output : List Float) (marks : List ℕ) (reply : Reply (Unit {0})) (left : List Float) (leftMarks : List ℕ) : Type 0 where
  pub replies : reply ≡ verdict (diag_steps starts rows (length values) (length output) (length marks))
  pub output_after_lem : left ≡ after (diag_steps starts rows (length values) (length output) (length marks)) (overwrite (diagonals starts rows values) output) output
  pub marks_after : leftMarks ≡ after (diag_steps starts rows (length values) (length output) (length marks)) (overwrite (coverage starts rows values) marks) marks
