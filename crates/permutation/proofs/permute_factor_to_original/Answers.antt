use Rattle.std.specs.Float.{nan}
use Rattle.std.proofs.Common.{refl}
use Rattle.refusal.proofs.Returned.{returned}
use mathlib.Core.Path.{sym, ap}
use mathlib.Core.Bool.{not}
use borrow.Author.Tests.{lt-ltb, le-ltb, eq-eqb, ne_eqb}
use Rattle.refusal.proofs.Steps.{first_hit, first_skip}
use Rattle.factor_order.proofs.Laws.{accept_permutation}
use Rattle.permutation.proofs.CallLaws.{reordered-refused, reordered_passed}
use Rattle.permutation.proofs.permute_factor_to_original.Goals as goal

pub returns-then-orig_to_perm-gt-MAX_DIMENSION : goal.returns-then-orig_to_perm-gt-MAX_DIMENSION
returns-then-orig_to_perm-gt-MAX_DIMENSION c = let a = c.args in
    reordered-refused a.orig_to_perm.now a.input.now a.output.now (first_hit 1 _ tt (lt-ltb _ _ c.if-orig_to_perm-gt-MAX_DIMENSION.true))

pub returns-then-input-gt-MAX_DIMENSION : goal.returns-then-input-gt-MAX_DIMENSION
returns-then-input-gt-MAX_DIMENSION c = let a = c.args in
    reordered-refused a.orig_to_perm.now a.input.now a.output.now
    (first_skip 1 _ tt (le-ltb _ _ c.if-orig_to_perm-gt-MAX_DIMENSION.false) (first_hit 1 _ tt (lt-ltb _ _ c.if-input-gt-MAX_DIMENSION.true)))

pub returns-then-input-orig_to_perm : goal.returns-then-input-orig_to_perm
returns-then-input-orig_to_perm c = let a = c.args in
    reordered-refused a.orig_to_perm.now a.input.now a.output.now
    (first_skip 1 _ tt (le-ltb _ _ c.if-orig_to_perm-gt-MAX_DIMENSION.false)
    (first_skip 1 _ tt (le-ltb _ _ c.if-input-gt-MAX_DIMENSION.false) (first_hit 4 _ tt (ap not (ne_eqb _ _ c.if-input-orig_to_perm.true)))))

pub reorder-requires : goal.reorder-requires
reorder-requires c = let p = accept_permutation _ _ (sym c.in_ok-check_permutation.ensures) in
    record { permutation = p.0; input_len = (c.if-input-orig_to_perm.false, p.1) }

pub returns-in_err-check_permutation : goal.returns-in_err-check_permutation
returns-in_err-check_permutation c = let a = c.args in
    rw (returned _ _ c.from_residual.ensures.1 refl) (reordered-refused a.orig_to_perm.now a.input.now a.output.now
    (first_skip 1 _ tt (le-ltb _ _ c.if-orig_to_perm-gt-MAX_DIMENSION.false)
    (first_skip 1 _ tt (le-ltb _ _ c.if-input-gt-MAX_DIMENSION.false)
    (first_skip 4 _ tt (ap not (eq-eqb _ _ c.if-input-orig_to_perm.false)) (sym c.in_err-check_permutation.ensures)))))

pub returns : goal.returns
returns c = let a = c.args in
    reordered_passed a.orig_to_perm.now a.input.now a.output.now
    (first_skip 1 _ tt (le-ltb _ _ c.if-orig_to_perm-gt-MAX_DIMENSION.false)
    (first_skip 1 _ tt (le-ltb _ _ c.if-input-gt-MAX_DIMENSION.false)
    (first_skip 4 _ tt (ap not (eq-eqb _ _ c.if-input-orig_to_perm.false)) (sym c.in_ok-check_permutation.ensures))))
    (c.reorder.ensures nan)
