use mathlib.Core.Bool.{true, false, true≢false}
use lib.Ieee.{Float, nan, inf, fin, lt, of_bits}
use lib.Ieee.Scale.{finite}
use lib.Ieee.{nan_bits}
use borrow.Author.Rules.{rules}
use mathlib.Core.Path.{◌≡◌, refl, sym}
use Rattle.finite_check.proofs.is_finite.Goals as goal

-- below infinity, and above its negative
between : (x : Float) → lt x (inf false) ≡ true → lt (inf true) x ≡ finite x
unfolding lt
between nan h = refl
between (inf true) h = refl
between (inf false) h = absurd (true≢false (sym h))
between (fin s m e) h = refl

-- not below infinity
not_below_lem : (x : Float) → lt x (inf false) ≡ false → false ≡ finite x
unfolding lt
not_below_lem nan h = refl
not_below_lem (inf s) h = refl
not_below_lem (fin s m e) h = absurd (true≢false h)

pub float_from_bits-t-2 : goal.float_from_bits-t-2
unfolding nan_bits
float_from_bits-t-2 c = search rules

pub float_from_bits-result : goal.float_from_bits-result
unfolding nan_bits
float_from_bits-result c = search rules

pub returns-then-x : goal.returns-then-x
unfolding of_bits
returns-then-x c = between _ c.if-x.true

pub returns : goal.returns
unfolding of_bits
returns c = not_below_lem _ c.if-x.false
