use mathlib.Core.Path.{sym, ◌∙◌}
use mathlib.Core.Bool.{true≢false}
use borrow.Author.Tests.{lt-ltb, le-ltb}
use Rattle.refusal.proofs.Returned.{returned}
use Rattle.refusal.proofs.Steps.{first_hit, first_skip, first_end, append-refused, append_passed}
use Rattle.factor_order.specs.Permutation.{permutation_steps}
use Rattle.permutation.proofs.order.check_permutation.Goals as goal

pub check_elements-requires : goal.check_elements-requires
check_elements-requires c = record { orig_to_perm_len_bound = c.requires; orig_to_perm_in_bounds = λ e. absurd (true≢false (sym e)) }

pub returns-then-room-orig_to_perm : goal.returns-then-room-orig_to_perm
returns-then-room-orig_to_perm c = let a = c.args in
    sym
    (append_passed (permutation_steps a.orig_to_perm.now) _ tt (sym c.in_ok-check_elements.ensures)
    ∙ first_hit 7 _ tt (lt-ltb _ _ c.if-room-orig_to_perm.true))

pub returns-in_err-check_elements : goal.returns-in_err-check_elements
returns-in_err-check_elements c = let a = c.args in
    returned _ _ c.from_residual.ensures.1 (append-refused (permutation_steps a.orig_to_perm.now) _ _ tt (sym c.in_err-check_elements.ensures))

pub returns : goal.returns
returns c = let a = c.args in
    sym
    (append_passed (permutation_steps a.orig_to_perm.now) _ tt (sym c.in_ok-check_elements.ensures)
    ∙ first_skip 7 _ tt (le-ltb _ _ c.if-room-orig_to_perm.false) (first_end tt))
