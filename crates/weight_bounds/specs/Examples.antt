-- Small rows: what the definitions give, by computation. Assumes nothing.
use Rattle.std.specs.Prelude.{ℕ, zero, suc, ℤ, pos, negsuc}

-- F2 of document 01: entries 5, -2, -2, 1; weights from -1 to 2 and from 1 to 3: squares 0 to 4 and 1 to 9, product -3 to 6
abbrev pub f2_pair : ℕ → ℕ → ℤ
f2_pair zero zero = pos 5
f2_pair zero (suc b) = negsuc 1
f2_pair (suc a) zero = negsuc 1
f2_pair (suc a) (suc b) = pos 1

abbrev pub low_end : ℕ → ℤ
low_end zero = negsuc 0
low_end (suc a) = pos 1

abbrev pub high_end : ℕ → ℤ
high_end zero = pos 2
high_end (suc a) = pos 3
