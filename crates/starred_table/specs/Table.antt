-- Document 01's starred cases, as one table: what the definitions give, computed.
-- Assumes nothing.
use Rattle.std.specs.Prelude.{◌≡◌, refl, [], ◌∷◌, cond, Float, negsuc}
use Rattle.std.specs.Float.{binary64, nan}
use Rattle.std.specs.Float.Ieee.{of_int, of_bits, ne, le, add, sub, mul, div, neg}
use Rattle.lists.specs.Test.{any, any_in}
use Rattle.lists.specs.Tabulate.{tabulate}
use Rattle.lists.specs.Overwrite.{overwrite}
use Rattle.lists.specs.Place.{place_from}
use Rattle.lists.specs.Sum.{sum_to}
use Rattle.lists.specs.Select.{picked, select}
use Rattle.lists.specs.Cells.{cell_count}
use Rattle.refusal.specs.Steps.{refused, answered, first, verdict, after, each}
use Rattle.factor_order.specs.Permutation.{validate_steps, invert_steps, inverse_of}
use Rattle.floor.specs.Floored.{floored}
use Rattle.floor.specs.VarianceFloor.{floor_steps, floor_of}
use Rattle.floor.specs.Floor.{stabilized_of}
use Rattle.floor.specs.Examples.{half, variances, worked-reply, worked-output}
use Rattle.pairs.specs.Pair.{pair_total}
use Rattle.bits.specs.Bits.{bit_words}
use Rattle.pairs.specs.Scratch.{scratch_words}
use Rattle.columns.specs.Kept.{f0, factor_pairs}
use Rattle.columns.specs.Columns.{bound_steps, broken_steps, starts_steps, rows_steps, column_steps}
use Rattle.columns.specs.Stored.{finite_steps, stored_steps}
use Rattle.columns.specs.Diagonal.{diagonal_steps}
use Rattle.columns.specs.Operator.{operator_steps}
use Rattle.columns.specs.Examples.{whole}
use Rattle.closed_set.specs.ClosedSet.{reach, member}
use Rattle.closed_set.specs.Requests.{requested}
use Rattle.diagnostics.specs.declared.SelectedInverseStatus.TheVariants.{Complete, ClosureTooLarge}
use Rattle.diagnostics.specs.Diagnosis.{ratio_of, diagnosis}
use Rattle.selection.specs.Diagnosis.{diagnosis_of}
use Rattle.entries.specs.Entries.{float_table}
use Rattle.selection.specs.RequestSteps.{request_steps}
use Rattle.columns.specs.OperatorPair.{operator_pair}
use Rattle.selection.specs.Selection.{room, room_steps, selected_complete, selected_answer}
use Rattle.selection.specs.Call.{selected_steps}
use Rattle.quadratic_form.specs.CrossValue.{add_terms, add_places}
use Rattle.quadratic_form.specs.RowValue.{operator_values}
use Rattle.operator_variances_with_limit.specs.Transformed.{transformed_steps as limited_steps}
use Rattle.operator_variances.specs.Transformed.{transformed_selection, transformed_steps, transformed_values}
use Rattle.starred_table.specs.Calls.{F2, F3, NoColumns, f2_operator}
use Rattle.selected_entry.specs.SelectedEntry.{refused_with, looked, entry_answer}
use Rattle.starred_table.specs.Answer.{f2_entry, one_entry}

-- ---- selected entries: requested pairs, closure pairs, factor pairs, limit, status

pub record ClosedSets : Type 0 where
  -- F2 with the request (0, 0) at limits 3 and 2, (1, 0), (1, 1), (0, 1) with (1, 0), and no requests at limit 0
  pub f2_first : F2 (0 ∷ []) (0 ∷ []) 3 ≡ answered (diagnosis 1 3 3 3 Complete)
  pub f2_limited : F2 (0 ∷ []) (0 ∷ []) 2 ≡ answered (diagnosis 1 3 3 2 ClosureTooLarge)
  pub f2_below : F2 (1 ∷ []) (0 ∷ []) 3 ≡ answered (diagnosis 1 2 3 3 Complete)
  pub f2_last : F2 (1 ∷ []) (1 ∷ []) 3 ≡ answered (diagnosis 1 1 3 3 Complete)
  pub f2_repeated : F2 (0 ∷ 1 ∷ []) (1 ∷ 0 ∷ []) 3 ≡ answered (diagnosis 1 2 3 3 Complete)
  pub f2_none : F2 [] [] 0 ≡ answered (diagnosis 0 0 3 0 Complete)
  -- requests past the limit are all counted
  pub f2_many : F2 (0 ∷ 1 ∷ []) (0 ∷ 1 ∷ []) 0 ≡ answered (diagnosis 2 1 3 0 ClosureTooLarge)
  -- limits at 0 and at 2^32 − 1, and one pair requested twice
  pub f2_zero : F2 (0 ∷ []) (0 ∷ []) 0 ≡ answered (diagnosis 1 1 3 0 ClosureTooLarge)
  pub f2_unlimited : F2 (0 ∷ []) (0 ∷ []) 4294967295 ≡ answered (diagnosis 1 3 3 4294967295 Complete)
  pub f2_twice : F2 (0 ∷ 0 ∷ []) (0 ∷ 0 ∷ []) 3 ≡ answered (diagnosis 1 3 3 3 Complete)
  -- F3 with the request (0, 0) at limits 6 and 5
  pub f3_first : F3 (0 ∷ []) (0 ∷ []) 6 ≡ answered (diagnosis 1 6 5 6 Complete)
  pub f3_limited : F3 (0 ∷ []) (0 ∷ []) 5 ≡ answered (diagnosis 1 6 5 5 ClosureTooLarge)
  -- no columns: Complete, and the ratio 0.0
  pub none_first : NoColumns 3 ≡ answered (diagnosis 0 0 0 3 Complete)
  pub none_ratio : ratio_of 0 0 ≡ f0

pub closed_sets : ClosedSets
unfolding any any_in sum_to picked select cell_count of_int of_bits ne le div factor_pairs reach member requested diagnosis_of ratio_of
    first pair_total bit_words scratch_words bound_steps broken_steps starts_steps rows_steps column_steps finite_steps stored_steps request_steps diagonal_steps room_steps selected_steps
closed_sets = record {
  f2_first = refl;
  f2_limited = refl;
  f2_below = refl;
  f2_last = refl;
  f2_repeated = refl;
  f2_none = refl;
  f2_many = refl;
  f2_zero = refl;
  f2_unlimited = refl;
  f2_twice = refl;
  f3_first = refl;
  f3_limited = refl;
  none_first = refl;
  none_ratio = refl;
}

-- ---- selected entries: what reads back

-- -2.0 and 0.25
abbrev pub minus-two : Float
minus-two = of_int binary64 (negsuc 1)

abbrev pub quarter : Float
quarter = div binary64 (whole 1) (whole 4)

pub record Values : Type 0 where
  -- F2 with the request (0, 0): Z(0, 0) = 5, Z(1, 0) = -2, Z(1, 1) = 1
  pub f2_first_00 : f2_entry (0 ∷ []) (0 ∷ []) 0 0 ≡ looked (answered (whole 5))
  pub f2_first_10 : f2_entry (0 ∷ []) (0 ∷ []) 1 0 ≡ looked (answered minus-two)
  pub f2_first_11 : f2_entry (0 ∷ []) (0 ∷ []) 1 1 ≡ looked (answered (whole 1))
  -- F2 with the request (1, 1): the lookup of (0, 0) gives 8
  pub f2_last_00 : f2_entry (1 ∷ []) (1 ∷ []) 0 0 ≡ looked (refused 8)
  -- one column: only the value 0.0 gives 6, the diagonal 2.0 gives 0.25; NaN gives 18, as document 02 has it
  pub one_zero : one_entry f0 ≡ refused_with 6
  pub one_two : one_entry (whole 2) ≡ looked (answered quarter)
  pub one_nan : one_entry nan ≡ refused_with 18

pub values : Values
unfolding any any_in sum_to picked select cell_count of_int of_bits ne le add sub mul div neg
    first bound_steps broken_steps starts_steps rows_steps column_steps finite_steps stored_steps request_steps diagonal_steps room_steps selected_steps
    pair_total bit_words scratch_words reach member requested float_table entry_answer
values = record {
  f2_first_00 = refl;
  f2_first_10 = refl;
  f2_first_11 = refl;
  f2_last_00 = refl;
  one_zero = refl;
  one_two = refl;
  one_nan = refl;
}

-- ---- F2 with the operator row 1 at 0, 1 at 1: the three pairs of two columns, all of them needed, and 2

pub operator_answered : first (transformed_steps f2_operator (room 3 3 3 12) 1) (selected_answer (transformed_selection f2_operator)) ≡ answered (diagnosis 3 3 3 30 Complete)
unfolding any any_in sum_to picked select cell_count of_int of_bits ne le factor_pairs reach member diagnosis_of first pair_total bit_words scratch_words bound_steps broken_steps starts_steps
    rows_steps column_steps finite_steps stored_steps operator_steps diagonal_steps room_steps limited_steps operator_pair
operator_answered = refl

pub operator_written : (z : Float) → after (transformed_steps f2_operator (room 3 3 3 12) 1)
    (cond (selected_complete (transformed_selection f2_operator)) (overwrite (transformed_values f2_operator) (z ∷ [])) (z ∷ [])) (z ∷ []) ≡ whole 2 ∷ []
unfolding any any_in sum_to picked select cell_count of_int of_bits ne le reach member after first pair_total bit_words scratch_words bound_steps broken_steps starts_steps rows_steps column_steps finite_steps stored_steps
    operator_steps diagonal_steps room_steps limited_steps operator_pair overwrite tabulate operator_values add_terms add_places float_table add sub mul div neg
operator_written z = refl

-- ---- permutations

pub record Permutations : Type 0 where
  -- 2 0 1 has inverse 1 2 0
  pub inverse_accepted : verdict (invert_steps (2 ∷ 0 ∷ 1 ∷ []) 3) ≡ answered tt
  pub inverse_written : after (invert_steps (2 ∷ 0 ∷ 1 ∷ []) 3) (overwrite (inverse_of (2 ∷ 0 ∷ 1 ∷ [])) (7 ∷ 7 ∷ 7 ∷ [])) (7 ∷ 7 ∷ 7 ∷ []) ≡ 1 ∷ 2 ∷ 0 ∷ []
  pub inverse_validated : verdict (validate_steps (2 ∷ 0 ∷ 1 ∷ []) (1 ∷ 2 ∷ 0 ∷ [])) ≡ answered tt
  -- 0 0 9 gives 11, and the output stays
  pub repeated_refused : verdict (invert_steps (0 ∷ 0 ∷ 9 ∷ []) 3) ≡ refused 11
  pub repeated_untouched : after (invert_steps (0 ∷ 0 ∷ 9 ∷ []) 3) (overwrite (inverse_of (0 ∷ 0 ∷ 9 ∷ [])) (7 ∷ 7 ∷ 7 ∷ [])) (7 ∷ 7 ∷ 7 ∷ []) ≡ 7 ∷ 7 ∷ 7 ∷ []

pub permutations : Permutations
unfolding after first each any overwrite inverse_of tabulate place_from
permutations = record {
  inverse_accepted = refl;
  inverse_written = refl;
  inverse_validated = refl;
  repeated_refused = refl;
  repeated_untouched = refl;
}

-- ---- values 4, -2, 0, scale 0.5: floor 2, output 4 2 2, 2 hits

pub floor_answered : first (floor_steps half variances 3) (stabilized_of half variances) ≡ answered (record { floor = whole 2; floor_hits = 2 })
floor_answered = worked-reply

pub floor_written : (a b c : Float) → after (floor_steps half variances 3) (overwrite (floored (floor_of half variances) variances) (a ∷ b ∷ c ∷ [])) (a ∷ b ∷ c ∷ [])
    ≡ whole 4 ∷ whole 2 ∷ whole 2 ∷ []
floor_written = worked-output
