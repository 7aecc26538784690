-- Laws of specs/Exact.antt.
use Rattle.std.specs.Prelude.{ℕ, ◌+◌, ◌<◌, ◌≡◌, List, length, get_or, take, ℤ}
use Rattle.std.proofs.Common.{◌∙◌}
use Rattle.integers.proofs.Sum.{sum_cong}
use Rattle.integers.specs.Matrix.{Matrix}
use Rattle.columns.specs.WholeFactor.{whole_value}
use Rattle.diagnostics.specs.declared.SelectedInverseStatus.TheVariants.{Complete}
use Rattle.selection.specs.Selection.{LentOf}
use Rattle.whole_selection.specs.Call.{WholeCall, whole_answer}
use Rattle.whole_selection.specs.ReadBack.{ReadsWhole}
use Rattle.whole_selection.proofs.ReadBack.{reads_found}
use Rattle.run_sums.specs.Runs.{runs, run_sum}
use Rattle.track_variances.specs.Track.{track_entry}
use Rattle.track_variances.proofs.Promise.{along_found, along-run}
use Rattle.track_variances.specs.Exact.{AlongAfter}

module _ (x : WholeCall) (lists : LentOf ℤ) (X : Matrix) (R : ReadsWhole x lists X) (complete : (whole_answer x).status ≡ Complete)
    (track : List ℕ) (width : ℕ) (output left : List ℤ) (A : AlongAfter x lists track width output left) where
  abbrev starts : List ℕ
  starts = take (x.factor.n + 1) lists.result_starts

  -- the entries of the runs are the inverse's
  inverse_entry : (i a b : ℕ) → i < runs (length track) width → a < width → b < width
      → track_entry starts lists.result_rows lists.result_values track (i + a) (i + b) ≡ X (get_or track (i + a) 0) (get_or track (i + b) 0)
  inverse_entry i a b h l m =
      reads_found x lists X R complete (get_or track (i + a) 0) (get_or track (i + b) 0)
      (along_found starts lists.result_rows lists.result_values track width output left A i a b h l m)

  pub inverse-run : (i : ℕ) → i < runs (length track) width → whole_value left i ≡ run_sum X track width i
  inverse-run i h =
      along-run starts lists.result_rows lists.result_values track width output left A i h
      ∙ sum_cong width _ _ (λ a l. sum_cong width _ _ (λ b m. inverse_entry i a b h l m))
