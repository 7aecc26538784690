use native.Mathlib.Omega.{arith}
use mathlib.Core.Path.{◌≡◌, sym, subst}
use Rattle.std.proofs.Common.{add-zero}
use borrow.Author.Rules.{rules}
use Prim.Native.Nat.{ℕ, ◌+◌}
use Rattle.file_lines.specs.Places.{FewAt}
use Rattle.file_lines.proofs.PlainLaws.{few_start, few_more}
use Rattle.file_lines.proofs.few_digits.Goals as goal

pub loop-k-init : goal.loop-k-init
loop-k-init c = rw add-zero (few_start _ _ (omega (arith, c.requires)))

pub loop-k-preserved : goal.loop-k-preserved
loop-k-preserved c =
    few_more _ _ _ _ _ _ c.loop-k.invariant (search rules) (omega (arith, c.requires)) (sym c.if-not-digit.ensures) c.digit_more-value.ensures (omega arith)

pub returns : goal.returns
returns c =
    let last : c.loop-k.k ≡ 4 = omega arith in
    subst (λ (k : ℕ). FewAt c.args.text.now c.args.p c.loop-k.value (c.args.p + k)) last c.loop-k.invariant
