use mathlib.Core.Path.{sym, ap, ◌∙◌}
use lib.IntN.{ℤ, pos, negsuc}
use lib.Signed.{lt_z}
use mir.Syntax.{w64}
use mir.ValLaws.{to_z-of_z}
use Rattle.whole_steps.specs.Machine.{beyond_above, beyond_below}
use Rattle.whole_steps.proofs.is_beyond.Goals as goal

pub returns-then-z-gt9007199254740992 : goal.returns-then-z-gt9007199254740992
returns-then-z-gt9007199254740992 c = sym (beyond_above 9007199254740992 c.args.z (sym (ap (λ (z : ℤ). lt_z (pos 9007199254740992) z) (to_z-of_z w64 c.args.z c.ranges.z)) ∙ c.if-z-gt9007199254740992.true))

pub returns : goal.returns
returns c = let back = to_z-of_z w64 c.args.z c.ranges.z in
    ap (λ (z : ℤ). lt_z z (negsuc 9007199254740991)) back
    ∙ beyond_below 9007199254740991 c.args.z (sym (ap (λ (z : ℤ). lt_z (pos 9007199254740992) z) back) ∙ c.if-z-gt9007199254740992.false)
