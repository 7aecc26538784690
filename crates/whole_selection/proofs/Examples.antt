-- Laws of specs/Examples.antt.
use Rattle.std.specs.Prelude.{refl}
use Rattle.lists.specs.Test.{any, any_in}
use Rattle.lists.specs.Sum.{sum_to}
use Rattle.lists.specs.Select.{select, picked}
use Rattle.lists.specs.Cells.{cell_count}
use Rattle.refusal.specs.Steps.{first}
use Rattle.bits.specs.Bits.{bit_words}
use Rattle.pairs.specs.Pair.{pair_total}
use Rattle.pairs.specs.Scratch.{scratch_words}
use Rattle.columns.specs.Columns.{bound_steps, broken_steps, starts_steps, rows_steps, column_steps}
use Rattle.columns.specs.Kept.{factor_pairs}
use Rattle.columns.specs.UnitDiagonals.{unit_steps, missing_steps}
use Rattle.closed_set.specs.ClosedSet.{reach, member}
use Rattle.closed_set.specs.Requests.{requested}
use Rattle.exact.specs.Exceeds.{set_exceeds}
use Rattle.entries.specs.WholeTable.{whole_table}
use Rattle.selection.specs.RequestSteps.{request_steps}
use Rattle.selection.specs.Diagnosis.{diagnosis_of}
use Rattle.selection.specs.Selection.{room_steps}
use Rattle.whole_selection.specs.Call.{work_steps, check_steps, exceed_steps}
use Rattle.whole_selection.specs.Examples.{Replies}

pub replies : Replies
unfolding any any_in sum_to picked select cell_count factor_pairs reach member requested diagnosis_of
    first pair_total bit_words scratch_words bound_steps broken_steps starts_steps rows_steps column_steps request_steps unit_steps missing_steps room_steps work_steps
    check_steps exceed_steps set_exceeds whole_table
replies = record {
  f2_first = refl;
  f2_limited = refl;
  kept_alone = refl;
  kept_alone_below = refl;
  kept_edge = refl;
  kept_edge_below = refl;
  kept_limited = refl;
  none_asked = refl;
  entry_edge = refl;
  entry_edge_below = refl;
  product_alone = refl;
  product_within = refl;
  sum_alone = refl;
  sum_within = refl;
  entry_alone = refl;
  entry_within = refl;
  above_dropped = refl;
  five_first = refl;
  nineteen_first = refl;
  six_left = refl;
  nineteen_negative = refl;
  starts_short = refl;
  scratch_short = refl;
  work_short = refl;
  work_least = refl;
}
