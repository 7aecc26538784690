-- Document 01's worked case: values 4, -2, 0 with scale 0.5 give floor 2, output 4 2 2 and 2 hits. Refusals 13, 14 and 7.
-- Assumes nothing.
use Rattle.std.specs.Prelude.{◌≡◌, refl, List, [], ◌∷◌, Float}
use Rattle.std.specs.Float.{nan, binary64}
use Rattle.std.specs.Float.Ieee.{of_bits, of_int, neg, lt, add, div, mul}
use Rattle.lists.specs.Test.{any}
use Rattle.lists.specs.Select.{picked, select}
use Rattle.lists.specs.Tabulate.{tabulate}
use Rattle.lists.specs.Overwrite.{overwrite}
use Rattle.refusal.specs.Steps.{answered, refused, first, after}
use Rattle.columns.specs.Examples.{whole}
use Rattle.floor.specs.PositiveMean.{positive_sum}
use Rattle.floor.specs.declared.variance_floor.VarianceFloor.{VarianceFloor}
use Rattle.floor.specs.declared.variance_floor.VarianceFloor.TheVariants.{Zero, PositiveMean}
use Rattle.floor.specs.Floored.{floored}
use Rattle.floor.specs.VarianceFloor.{floor_steps, floor_of}
use Rattle.floor.specs.Floor.{stabilized_of}

-- 4, -2, 0
abbrev pub variances : List Float
variances = of_bits binary64 0x4010_0000_0000_0000 ∷ neg (of_bits binary64 0x4000_0000_0000_0000) ∷ of_bits binary64 0 ∷ []

-- scale 0.5
abbrev pub half : VarianceFloor
half = PositiveMean (of_bits binary64 0x3fe0_0000_0000_0000)

pub worked-reply : first (floor_steps half variances 3) (stabilized_of half variances) ≡ answered (record { floor = whole 2; floor_hits = 2 })
unfolding first any select picked positive_sum of_bits of_int neg lt add div mul
worked-reply = refl

pub worked-output : (a b c : Float) → after (floor_steps half variances 3) (overwrite (floored (floor_of half variances) variances) (a ∷ b ∷ c ∷ [])) (a ∷ b ∷ c ∷ [])
    ≡ whole 4 ∷ whole 2 ∷ whole 2 ∷ []
unfolding after first any select picked positive_sum of_bits of_int neg lt add div mul overwrite tabulate
worked-output a b c = refl

-- NaN before a bad scale, a bad scale before a short output
pub nan_refused : first (floor_steps (PositiveMean nan) (whole 1 ∷ nan ∷ []) 0) (stabilized_of (PositiveMean nan) (whole 1 ∷ nan ∷ [])) ≡ refused 13
unfolding first any of_int
nan_refused = refl

pub scale_refused : first (floor_steps (PositiveMean nan) variances 0) (stabilized_of (PositiveMean nan) variances) ≡ refused 14
unfolding first any of_bits neg
scale_refused = refl

pub short_refused : first (floor_steps Zero variances 2) (stabilized_of Zero variances) ≡ refused 7
unfolding first any of_bits neg
short_refused = refl
