use mathlib.Core.Path.{sym, ap, ◌∙◌}
use mathlib.Core.Bool.{not}
use borrow.Author.Tests.{lt-ltb, le-ltb, eq-eqb, ne_eqb}
use Rattle.refusal.proofs.Returned.{returned}
use Rattle.refusal.proofs.Steps.{first_hit, first_skip, first_end, append-refused, append_passed}
use Rattle.factor_order.specs.Permutation.{accept_steps}
use Rattle.permutation.proofs.order.check_marked.Goals as goal

pub returns-then-orig_to_perm-gt-MAX_DIMENSION : goal.returns-then-orig_to_perm-gt-MAX_DIMENSION
returns-then-orig_to_perm-gt-MAX_DIMENSION c = sym
    (first_hit 1 _ tt (lt-ltb _ _ c.if-orig_to_perm-gt-MAX_DIMENSION.true))

pub returns-then-input-gt-MAX_DIMENSION : goal.returns-then-input-gt-MAX_DIMENSION
returns-then-input-gt-MAX_DIMENSION c = sym
    (first_skip 1 _ tt (le-ltb _ _ c.if-orig_to_perm-gt-MAX_DIMENSION.false)
    (first_hit 1 _ tt (lt-ltb _ _ c.if-input-gt-MAX_DIMENSION.true)))

pub returns-then-marks-gt-MAX_DIMENSION : goal.returns-then-marks-gt-MAX_DIMENSION
returns-then-marks-gt-MAX_DIMENSION c = sym
    (first_skip 1 _ tt (le-ltb _ _ c.if-orig_to_perm-gt-MAX_DIMENSION.false)
    (first_skip 1 _ tt (le-ltb _ _ c.if-input-gt-MAX_DIMENSION.false)
    (first_hit 1 _ tt (lt-ltb _ _ c.if-marks-gt-MAX_DIMENSION.true))))

pub returns-then-input-orig_to_perm : goal.returns-then-input-orig_to_perm
returns-then-input-orig_to_perm c = sym
    (first_skip 1 _ tt (le-ltb _ _ c.if-orig_to_perm-gt-MAX_DIMENSION.false)
    (first_skip 1 _ tt (le-ltb _ _ c.if-input-gt-MAX_DIMENSION.false)
    (first_skip 1 _ tt (le-ltb _ _ c.if-marks-gt-MAX_DIMENSION.false)
    (first_hit 4 _ tt (ap not (ne_eqb _ _ c.if-input-orig_to_perm.true))))))

pub returns-then-marks-orig_to_perm : goal.returns-then-marks-orig_to_perm
returns-then-marks-orig_to_perm c = sym
    (first_skip 1 _ tt (le-ltb _ _ c.if-orig_to_perm-gt-MAX_DIMENSION.false)
    (first_skip 1 _ tt (le-ltb _ _ c.if-input-gt-MAX_DIMENSION.false)
    (first_skip 1 _ tt (le-ltb _ _ c.if-marks-gt-MAX_DIMENSION.false)
    (first_skip 4 _ tt (ap not (eq-eqb _ _ c.if-input-orig_to_perm.false))
    (first_hit 4 _ tt (ap not (ne_eqb _ _ c.if-marks-orig_to_perm.true)))))))

pub returns-then-marks_room-orig_to_perm : goal.returns-then-marks_room-orig_to_perm
returns-then-marks_room-orig_to_perm c = let a = c.args in
    sym
    (first_skip 1 _ tt (le-ltb _ _ c.if-orig_to_perm-gt-MAX_DIMENSION.false)
    (first_skip 1 _ tt (le-ltb _ _ c.if-input-gt-MAX_DIMENSION.false)
    (first_skip 1 _ tt (le-ltb _ _ c.if-marks-gt-MAX_DIMENSION.false)
    (first_skip 4 _ tt (ap not (eq-eqb _ _ c.if-input-orig_to_perm.false))
    (first_skip 4 _ tt (ap not (eq-eqb _ _ c.if-marks-orig_to_perm.false))
    (append_passed (accept_steps a.orig_to_perm.now a.room) _ tt (sym c.in_ok-check_permutation.ensures)
    ∙ first_hit 7 _ tt (lt-ltb _ _ c.if-marks_room-orig_to_perm.true)))))))

pub returns-in_err-check_permutation : goal.returns-in_err-check_permutation
returns-in_err-check_permutation c = let a = c.args in
    returned _ _ c.from_residual.ensures.1
    (first_skip 1 _ tt (le-ltb _ _ c.if-orig_to_perm-gt-MAX_DIMENSION.false)
    (first_skip 1 _ tt (le-ltb _ _ c.if-input-gt-MAX_DIMENSION.false)
    (first_skip 1 _ tt (le-ltb _ _ c.if-marks-gt-MAX_DIMENSION.false)
    (first_skip 4 _ tt (ap not (eq-eqb _ _ c.if-input-orig_to_perm.false))
    (first_skip 4 _ tt (ap not (eq-eqb _ _ c.if-marks-orig_to_perm.false))
    (append-refused (accept_steps a.orig_to_perm.now a.room) _ _ tt (sym c.in_err-check_permutation.ensures)))))))

pub returns : goal.returns
returns c = let a = c.args in
    sym
    (first_skip 1 _ tt (le-ltb _ _ c.if-orig_to_perm-gt-MAX_DIMENSION.false)
    (first_skip 1 _ tt (le-ltb _ _ c.if-input-gt-MAX_DIMENSION.false)
    (first_skip 1 _ tt (le-ltb _ _ c.if-marks-gt-MAX_DIMENSION.false)
    (first_skip 4 _ tt (ap not (eq-eqb _ _ c.if-input-orig_to_perm.false))
    (first_skip 4 _ tt (ap not (eq-eqb _ _ c.if-marks-orig_to_perm.false))
    (append_passed (accept_steps a.orig_to_perm.now a.room) _ tt (sym c.in_ok-check_permutation.ensures)
    ∙ first_skip 7 _ tt (le-ltb _ _ c.if-marks_room-orig_to_perm.false) (first_end tt)))))))
