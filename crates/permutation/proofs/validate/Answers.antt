use native.Mathlib.Omega.{arith}
use mathlib.Core.Path.{refl, sym, ap, ◌∙◌}
use mathlib.Core.Bool.{not}
use borrow.Author.Tests.{lt-ltb, le-ltb, eq-eqb, ne_eqb}
use Rattle.refusal.proofs.Steps.{first_hit, first_skip}
use Rattle.permutation.proofs.validate.Goals as goal

pub returns-then-orig_to_perm-gt-MAX_DIMENSION : goal.returns-then-orig_to_perm-gt-MAX_DIMENSION
returns-then-orig_to_perm-gt-MAX_DIMENSION c = sym (first_hit 1 _ tt (lt-ltb _ _ c.if-orig_to_perm-gt-MAX_DIMENSION.true))

pub returns-then-perm_to_orig-gt-MAX_DIMENSION : goal.returns-then-perm_to_orig-gt-MAX_DIMENSION
returns-then-perm_to_orig-gt-MAX_DIMENSION c = sym (first_skip 1 _ tt (le-ltb _ _ c.if-orig_to_perm-gt-MAX_DIMENSION.false) (first_hit 1 _ tt (lt-ltb _ _ c.if-perm_to_orig-gt-MAX_DIMENSION.true)))

pub returns-then-orig_to_perm-perm_to_orig : goal.returns-then-orig_to_perm-perm_to_orig
returns-then-orig_to_perm-perm_to_orig c = sym
    (first_skip 1 _ tt (le-ltb _ _ c.if-orig_to_perm-gt-MAX_DIMENSION.false)
    (first_skip 1 _ tt (le-ltb _ _ c.if-perm_to_orig-gt-MAX_DIMENSION.false) (first_hit 12 _ tt (ap not (ne_eqb _ _ c.if-orig_to_perm-perm_to_orig.true)))))

pub check_elements-requires : goal.check_elements-requires
check_elements-requires c = record { orig_to_perm_len_bound = c.if-orig_to_perm-gt-MAX_DIMENSION.false; orig_to_perm_in_bounds = λ e. omega (arith, c.if-orig_to_perm-perm_to_orig.false) }

pub returns : goal.returns
returns c = c.check_elements.ensures
    ∙ sym
    (first_skip 1 _ tt (le-ltb _ _ c.if-orig_to_perm-gt-MAX_DIMENSION.false)
    (first_skip 1 _ tt (le-ltb _ _ c.if-perm_to_orig-gt-MAX_DIMENSION.false) (first_skip 12 _ tt (ap not (eq-eqb _ _ c.if-orig_to_perm-perm_to_orig.false)) refl)))
