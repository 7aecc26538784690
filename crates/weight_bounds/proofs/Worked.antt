-- The row of F2 in Examples: the hypotheses of the laws are met, by computation. Assumes nothing.
use Rattle.std.specs.Prelude.{ℕ, zero, suc, ◌<◌, ◌≡◌, refl, ℤ, pos, negsuc, ◌≤ℤ◌}
use Rattle.weight_bounds.specs.Bounds.{InRange, Scaled, low_bound, high_bound, variance}
use Rattle.weight_bounds.proofs.Within.{bounds_hold, bounds_scaled}
use Rattle.weight_bounds.specs.TermBounds.{Term}
use Rattle.weight_bounds.proofs.TermBounds.{least_term_attained, greatest_term_attained, term_holds}
use Rattle.weight_bounds.specs.Wider.{Wider}
use Rattle.weight_bounds.proofs.Wider.{low_bound_wider, high_bound_wider}
use Rattle.weight_bounds.proofs.Single.{low_bound-single}
use Rattle.weight_bounds.specs.Examples.{f2_pair, low_end, high_end}

-- the weights 2 and 3
abbrev chosen : ℕ → ℤ
chosen zero = pos 2
chosen (suc a) = pos 3

chosen_in_range : (a : ℕ) → a < 2 → InRange (low_end a) (chosen a) (high_end a)
chosen_in_range zero l = record { from = record { le = tt }; to = record { le = tt } }
chosen_in_range (suc a) l = record { from = record { le = tt }; to = record { le = tt } }

-- 20 - 24 + 9
chosen-variance : variance chosen f2_pair 2 ≡ pos 5
chosen-variance = refl

chosen_holds : InRange (negsuc 22) (pos 5) (pos 41)
chosen_holds = bounds_hold low_end high_end f2_pair 2 chosen chosen_in_range

-- the weights 1 / 2 and 3 / 2
abbrev halves : ℕ → ℤ
halves zero = pos 1
halves (suc a) = pos 3

halves_in_range : (a : ℕ) → a < 2 → Scaled 2 (low_end a) (halves a) (high_end a)
halves_in_range zero l = record { from = record { le = tt }; to = record { le = tt } }
halves_in_range (suc a) l = record { from = record { le = tt }; to = record { le = tt } }

-- (5 - 12 + 9) / 4
halves_hold : Scaled 4 (negsuc 22) (pos 2) (pos 41)
halves_hold = bounds_scaled low_end high_end f2_pair 2 2 halves halves_in_range

-- the least term of the two places is attained: 2 · 3 · -2
least_attained : Term low_end high_end f2_pair 0 1 (negsuc 11)
least_attained = least_term_attained low_end high_end f2_pair 0 1 (record { le = tt }) (record { le = tt })

-- and the greatest: -1 · 3 · -2
greatest_attained : Term low_end high_end f2_pair 0 1 (pos 6)
greatest_attained = greatest_term_attained low_end high_end f2_pair 0 1 (record { le = tt }) (record { le = tt })

-- one choice of both: 1 · 1 · -2
choice : Term low_end high_end f2_pair 0 1 (negsuc 1)
choice = record {
  x = pos 1;
  y = pos 1;
  left = record { from = record { le = tt }; to = record { le = tt } };
  right = record { from = record { le = tt }; to = record { le = tt } };
  one = λ _. refl;
  term_is = refl;
}

choice_holds : InRange (negsuc 11) (negsuc 1) (pos 6)
choice_holds = term_holds low_end high_end f2_pair 0 1 choice

-- the single choice within the ranges
chosen_wider : Wider chosen chosen low_end high_end 2
chosen_wider = record { ends = same; below = λ a l. (chosen_in_range a l).from; above = λ a l. (chosen_in_range a l).to }
  where
    same : (a : ℕ) → a < 2 → chosen a ≤ℤ chosen a
    same zero l = record { le = tt }
    same (suc a) l = record { le = tt }

wider_low : low_bound low_end high_end f2_pair 2 ≤ℤ low_bound chosen chosen f2_pair 2
wider_low = low_bound_wider chosen chosen low_end high_end f2_pair 2 chosen_wider

wider_high : high_bound chosen chosen f2_pair 2 ≤ℤ high_bound low_end high_end f2_pair 2
wider_high = high_bound_wider chosen chosen low_end high_end f2_pair 2 chosen_wider

chosen-single : low_bound chosen chosen f2_pair 2 ≡ pos 5
chosen-single = low_bound-single chosen f2_pair 2
