use mathlib.Core.Path.{◌≡◌, sym, ◌∙◌}
use mathlib.Core.Bool.{true}
use Rattle.pairs.specs.ColumnOrder.{column_marking}
use Rattle.columns.specs.Kept.{nonzero}
use Rattle.columns.specs.Form.{pattern_pair}
use Rattle.fill.specs.Agree.{same_pairs}
use Rattle.fill.proofs.ChoiceLaws.{choice_input, pattern_input, pattern_values}
use Rattle.fill.proofs.routes.takahashi_selected_inverse.Goals as goal

-- the test says that the marked set is the pattern
agrees-After-takahashi_selected_inverse_on_factor_pattern-arg-1 : (t : goal.After-takahashi_selected_inverse_on_factor_pattern-arg-1) → let a = t.args in
    same_pairs a.n (column_marking a.n a.scratch.now) (pattern_pair a.starts.now a.rows.now (nonzero a.values.now)) ≡ true
agrees-After-takahashi_selected_inverse_on_factor_pattern-arg-1 t = sym t.closure_is_cholesky_factor_pattern.ensures ∙ t.if-closure_is_cholesky_factor_pattern.true

-- the test says that the marked set is the pattern
agrees-After-slice_known-then-closure_is_cholesky_factor_pattern-1 : (t : goal.After-slice_known-then-closure_is_cholesky_factor_pattern-1) → let a = t.args in
    same_pairs a.n (column_marking a.n a.scratch.now) (pattern_pair a.starts.now a.rows.now (nonzero a.values.now)) ≡ true
agrees-After-slice_known-then-closure_is_cholesky_factor_pattern-1 t = sym t.closure_is_cholesky_factor_pattern.ensures ∙ t.if-closure_is_cholesky_factor_pattern.true

-- src/lib.rt:30:8
pub closure_is_cholesky_factor_pattern-requires : goal.closure_is_cholesky_factor_pattern-requires
closure_is_cholesky_factor_pattern-requires c = choice_input c.requires

-- src/lib.rt:39:9
pub takahashi_selected_inverse_on_factor_pattern-requires : goal.takahashi_selected_inverse_on_factor_pattern-requires
takahashi_selected_inverse_on_factor_pattern-requires c = pattern_input c.requires (agrees-After-takahashi_selected_inverse_on_factor_pattern-arg-1 c)

-- src/lib.rt:48:9
pub returns-then-closure_is_cholesky_factor_pattern : goal.returns-then-closure_is_cholesky_factor_pattern
returns-then-closure_is_cholesky_factor_pattern c = pattern_values c.requires (agrees-After-slice_known-then-closure_is_cholesky_factor_pattern-1 c) c.args.result_values.now c.takahashi_selected_inverse_on_factor_pattern.ensures

-- src/lib.rt:50:5
pub takahashi_selected_inverse_on_closure-requires : goal.takahashi_selected_inverse_on_closure-requires
takahashi_selected_inverse_on_closure-requires c = let p = c.requires in record { closure_route_input = p.route; divisors = p.divisors }

-- src/lib.rt:13:1
pub returns : goal.returns
returns c = c.takahashi_selected_inverse_on_closure.ensures
