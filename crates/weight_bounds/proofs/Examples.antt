-- Laws of specs/Examples.antt.
use Rattle.std.specs.Prelude.{◌≡◌, refl, pos, negsuc}
use Rattle.weight_bounds.specs.Bounds.{least_square, greatest_square, least_product, greatest_product, low_bound, high_bound}
use Rattle.weight_bounds.specs.Examples.{f2_pair, low_end, high_end}

-- a weight from -1 to 2 with itself: 0 to 4, not -2 to 4
square_low : least_square (negsuc 0) (pos 2) ≡ pos 0
square_low = refl

square_high : greatest_square (negsuc 0) (pos 2) ≡ pos 4
square_high = refl

-- weights of -1 to 2 and -3 to 1: -6 to 3
product_low : least_product (negsuc 0) (pos 2) (negsuc 2) (pos 1) ≡ negsuc 5
product_low = refl

product_high : greatest_product (negsuc 0) (pos 2) (negsuc 2) (pos 1) ≡ pos 3
product_high = refl

-- 0 - 12 - 12 + 1 and 20 + 6 + 6 + 9
f2_low : low_bound low_end high_end f2_pair 2 ≡ negsuc 22
f2_low = refl

f2_high : high_bound low_end high_end f2_pair 2 ≡ pos 41
f2_high = refl

-- an entry below 0 exchanges the ends: 2 to 3 with itself, times -1
own_low : low_bound (λ _. pos 2) (λ _. pos 3) (λ _ _. negsuc 0) 1 ≡ negsuc 8
own_low = refl

own_high : high_bound (λ _. pos 2) (λ _. pos 3) (λ _ _. negsuc 0) 1 ≡ negsuc 3
own_high = refl
