use Rattle.std.proofs.Common.{sym}
use Rattle.refusal.proofs.Returned.{returned_is}
use Rattle.pattern_lists.proofs.Laws.{operator_checks-sound, operator_checks_small}
use Rattle.pattern_lists.proofs.Pattern.{lists_refused, lists_passed}
use Rattle.pattern_lists.proofs.from_transformed_operator.Goals as goal

pub operator_lists-requires : goal.operator_lists-requires
operator_lists-requires c = let p = sym c.in_ok-check_operator.ensures in
    record { operator_rows = operator_checks-sound _ _ _ _ p; n_le_max_dimension = operator_checks_small _ _ _ _ p }

pub returns-in_err-check_operator : goal.returns-in_err-check_operator
returns-in_err-check_operator c = let a = c.args in
    rw (returned_is _ _ c.from_residual.ensures.1)
    (lists_refused _ _ _ a.scratch.now a.pair_rows.now a.pair_columns.now _ (sym c.in_err-check_operator.ensures))

pub returns : goal.returns
returns c = let a = c.args in
    lists_passed _ _ _ a.scratch.now a.pair_rows.now a.pair_columns.now (sym c.in_ok-check_operator.ensures) c.operator_lists.ensures
