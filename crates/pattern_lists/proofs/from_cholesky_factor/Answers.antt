use Rattle.std.proofs.Common.{sym}
use Rattle.refusal.proofs.Returned.{returned_is}
use Rattle.columns.proofs.Stored.{factor_steps_bounded, factor_steps-sound}
use Rattle.pattern_lists.proofs.Pattern.{lists_refused, lists_passed}
use Rattle.pattern_lists.proofs.from_cholesky_factor.Goals as goal

pub factor_lists-requires : goal.factor_lists-requires
factor_lists-requires c = let p = sym c.in_ok-check_factor.ensures in
    record { factor = factor_steps-sound _ p; n_le_max_dimension = (factor_steps_bounded _ p).small }

pub returns-in_err-check_factor : goal.returns-in_err-check_factor
returns-in_err-check_factor c = let a = c.args in
    rw (returned_is _ _ c.from_residual.ensures.1)
    (lists_refused _ _ _ a.scratch.now a.pair_rows.now a.pair_columns.now _ (sym c.in_err-check_factor.ensures))

pub returns : goal.returns
returns c = let a = c.args in
    lists_passed _ _ _ a.scratch.now a.pair_rows.now a.pair_columns.now (sym c.in_ok-check_factor.ensures) c.factor_lists.ensures
