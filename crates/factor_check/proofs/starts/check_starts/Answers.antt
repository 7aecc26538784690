use borrow.Author.Tests.{eq-eqb, ne_eqb}
use Rattle.columns.specs.Columns.{starts_steps}
use Rattle.refusal.proofs.Steps.{first_hit, first_skip}
use mathlib.Core.Bool.{not}
use native.Mathlib.Omega.{arith}
use Prim.Native.Nat.{◌+◌}
use mathlib.Core.Path.{◌≡◌, refl, ap, sym, ◌∙◌}
use lib.ListN.{length}
use Rattle.factor_check.proofs.starts.check_starts.Goals as goal

pub returns-then-starts-n : goal.returns-then-starts-n
unfolding starts_steps
returns-then-starts-n c = let q : length c.args.starts.now ≡ c.args.n + 1 → ⊥ = λ e. omega arith in
    sym (first_hit _ _ _ (ap not (ne_eqb _ _ q)))

pub returns-then-n-starts : goal.returns-then-n-starts
unfolding starts_steps
returns-then-n-starts c = let q : length c.args.starts.now ≡ c.args.n + 1 → ⊥ = λ e. omega arith in
    sym (first_hit _ _ _ (ap not (ne_eqb _ _ q)))

pub returns : goal.returns
unfolding starts_steps
returns c = let q : length c.args.starts.now ≡ c.args.n + 1 = omega arith in
    c.check_broken.ensures ∙ sym (first_skip _ _ _ (ap not (eq-eqb _ _ q)) refl)
