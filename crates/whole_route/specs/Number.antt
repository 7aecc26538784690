-- What the code's numbers say: a whole number, or 20 where there is none within 2 ^ 53.
-- Assumes nothing.
use Rattle.std.specs.Prelude.{cond, ℤ, ◌+ℤ◌, Option, Some, None}
use Rattle.refusal.specs.Steps.{Reply, refused, answered}
use Rattle.exact.specs.Multiple.{Small}
use Rattle.exact.specs.Checked.{beyond}

abbrev pub number_reply : Option ℤ → Reply ℤ
number_reply (Some z) = answered z
number_reply None = refused 20

-- where it is a number, it is small
abbrev pub SmallNumber : Reply ℤ → Type 0
SmallNumber (answered z) = Small z
SmallNumber (refused k) = Unit {0}

-- the sum of two numbers, or 20
abbrev pub sum_reply : ℤ → ℤ → Reply ℤ
sum_reply s x = cond (beyond (s +ℤ x)) (refused 20) (answered (s +ℤ x))
