use Rattle.std.specs.Float.{nan}
use Rattle.std.proofs.Common.{refl, sym}
use Rattle.refusal.proofs.Returned.{returned}
use Rattle.factor_order.proofs.Laws.{marked_accepted}
use Rattle.permutation.proofs.CallLaws.{marked_refused, marked_passed}
use Rattle.permutation.proofs.permute_factor_to_original_marked.Goals as goal

-- what passed is: lists as long as the permutation, and outputs not shorter
pub reorder-requires : goal.reorder-requires
reorder-requires c = let a = marked_accepted _ _ _ _ _ (sym c.in_ok-check_marked.ensures) in
    record { permutation = a.2; input_len = (a.0, a.3) }

pub reorder-requires-2 : goal.reorder-requires-2
reorder-requires-2 c = let a = marked_accepted _ _ _ _ _ (sym c.in_ok-check_marked.ensures) in
    record { permutation = a.2; input_len = (a.1, a.4) }

pub returns-in_err-check_marked : goal.returns-in_err-check_marked
returns-in_err-check_marked c = let a = c.args in
    rw (returned _ _ c.from_residual.ensures.1 refl)
    (marked_refused a.orig_to_perm.now a.input.now a.marks.now a.output.now a.output_marks.now (sym c.in_err-check_marked.ensures))

pub returns : goal.returns
returns c = let a = c.args in
    marked_passed a.orig_to_perm.now a.input.now a.marks.now a.output.now a.output_marks.now (sym c.in_ok-check_marked.ensures) (c.reorder.ensures nan) (c.reorder-2.ensures 0)
