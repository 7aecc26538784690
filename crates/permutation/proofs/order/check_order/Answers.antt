use native.Mathlib.Omega.{arith}
use mathlib.Core.Path.{sym, ap}
use mathlib.Core.Bool.{not, true≢false}
use borrow.Author.Tests.{eq-eqb, ne_eqb}
use Rattle.refusal.proofs.Steps.{first_hit, first_skip}
use Rattle.permutation.proofs.order.check_order.Goals as goal

pub returns-then-orig_to_perm-n : goal.returns-then-orig_to_perm-n
returns-then-orig_to_perm-n c = sym (first_hit 4 _ tt (ap not (ne_eqb _ _ c.if-orig_to_perm-n.true)))

pub check_elements-requires : goal.check_elements-requires
check_elements-requires c = record { orig_to_perm_len_bound = omega (arith, c.requires, c.if-orig_to_perm-n.false); orig_to_perm_in_bounds = λ e. absurd (true≢false (sym e)) }

pub returns : goal.returns
returns c = sym (first_skip 4 _ tt (ap not (eq-eqb _ _ c.if-orig_to_perm-n.false)) (sym c.check_elements.ensures))
