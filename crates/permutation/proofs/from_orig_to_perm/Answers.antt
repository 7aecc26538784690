use Rattle.std.proofs.Common.{refl}
use Rattle.refusal.proofs.Returned.{returned}
use mathlib.Core.Path.{sym}
use borrow.Author.Tests.{lt-ltb, le-ltb}
use Rattle.refusal.proofs.Steps.{first_hit, first_skip}
use Rattle.factor_order.proofs.Laws.{accept_permutation}
use Rattle.permutation.proofs.CallLaws.{inverted_refused, inverted_passed}
use Rattle.permutation.proofs.from_orig_to_perm.Goals as goal

pub returns-then-orig_to_perm-gt-MAX_DIMENSION : goal.returns-then-orig_to_perm-gt-MAX_DIMENSION
returns-then-orig_to_perm-gt-MAX_DIMENSION c = let a = c.args in
    inverted_refused a.orig_to_perm.now a.perm_to_orig.now (first_hit 1 _ tt (lt-ltb _ _ c.if-orig_to_perm-gt-MAX_DIMENSION.true))

pub invert-requires : goal.invert-requires
invert-requires c = let p = accept_permutation _ _ (sym c.in_ok-check_permutation.ensures) in
    record { permutation = p.0; orig_to_perm_len_bound = (c.if-orig_to_perm-gt-MAX_DIMENSION.false, p.1) }

pub returns-in_err-check_permutation : goal.returns-in_err-check_permutation
returns-in_err-check_permutation c = let a = c.args in
    rw (returned _ _ c.from_residual.ensures.1 refl) (inverted_refused a.orig_to_perm.now a.perm_to_orig.now
    (first_skip 1 _ tt (le-ltb _ _ c.if-orig_to_perm-gt-MAX_DIMENSION.false) (sym c.in_err-check_permutation.ensures)))

pub returns : goal.returns
returns c = let a = c.args in
    inverted_passed a.orig_to_perm.now a.perm_to_orig.now
    (first_skip 1 _ tt (le-ltb _ _ c.if-orig_to_perm-gt-MAX_DIMENSION.false) (sym c.in_ok-check_permutation.ensures))
    c.invert.ensures
