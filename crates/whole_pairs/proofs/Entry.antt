-- Laws of specs/Entry.antt.
use Rattle.std.specs.Prelude.{ℕ, ◌≡◌, refl, false, List, ltb, length, ℤ, pos, nat_abs}
use Rattle.std.proofs.Common.{sym, ◌∙◌, true≢false}
use Rattle.std.proofs.Math.Path.{ap}
use Rattle.std.proofs.Math.Bool.{not}
use Rattle.lists.specs.Sum.{bit}
use Rattle.refusal.specs.Steps.{Reply, refused, answered, settle}
use Rattle.columns.specs.WholeFactor.{whole_value}
use Rattle.result.specs.Lookup.{finds, value_at, lookup_of, WellFormed}
use Rattle.result.proofs.Laws.{lookup-symmetric}
use Rattle.result.specs.Halving.{lookup_place_within}
use Rattle.result.proofs.Halving.{within_lookup}
use Rattle.whole_pairs.specs.Entry.{entry_or_zero, absent_pair, pair_fault}

found_of : (r : Reply ℤ) → not (finds r) ≡ false → r ≡ answered (settle (pos 0) r)
found_of (answered z) e = refl
found_of (refused k) e = absurd (true≢false e)

module _ (starts rows : List ℕ) (values : List ℤ) where
  pub entry_or_zero-symmetric : (row col : ℕ) → entry_or_zero starts rows values row col ≡ entry_or_zero starts rows values col row
  unfolding entry_or_zero
  entry_or_zero-symmetric row col = ap (settle (pos 0)) (lookup-symmetric (pos 0) starts rows values row col)

  pub absent_pair-symmetric : (row col : ℕ) → absent_pair starts rows values row col ≡ absent_pair starts rows values col row
  unfolding absent_pair
  absent_pair-symmetric row col = ap (λ (r : Reply ℤ). not (finds r)) (lookup-symmetric (pos 0) starts rows values row col)

  -- the entry of a pair that is not absent is what the lookup finds
  pub present_found : (row col : ℕ) → absent_pair starts rows values row col ≡ false
      → lookup_of (pos 0) starts rows values row col ≡ answered (entry_or_zero starts rows values row col)
  unfolding absent_pair entry_or_zero
  present_found row col e = found_of (lookup_of (pos 0) starts rows values row col) e

  module _ (W : WellFormed starts rows (length values)) (row col : ℕ) where
    -- of a pair's place, or none
    place_lookup : (r : Reply ℕ) → lookup_place_within starts rows (length values) row col ≡ r → lookup_of (pos 0) starts rows values row col ≡ value_at (pos 0) values r
    place_lookup r e = sym (within_lookup (pos 0) starts rows values W row col) ∙ ap (value_at (pos 0) values) e

    pub entry_found : (p : ℕ) → lookup_place_within starts rows (length values) row col ≡ answered p → entry_or_zero starts rows values row col ≡ whole_value values p
    unfolding entry_or_zero
    entry_found p e = ap (settle (pos 0)) (place_lookup (answered p) e)

    pub entry_none : (k : ℕ) → lookup_place_within starts rows (length values) row col ≡ refused k → entry_or_zero starts rows values row col ≡ pos 0
    unfolding entry_or_zero
    entry_none k e = ap (settle (pos 0)) (place_lookup (refused k) e)

    absent_is : (r : Reply ℕ) → lookup_place_within starts rows (length values) row col ≡ r → absent_pair starts rows values row col ≡ not (finds (value_at (pos 0) values r))
    unfolding absent_pair
    absent_is r e = ap (λ (x : Reply ℤ). not (finds x)) (place_lookup r e)

    pub fault_found : (most p : ℕ) → lookup_place_within starts rows (length values) row col ≡ answered p
        → bit (ltb most (nat_abs (whole_value values p))) ≡ pair_fault most starts rows values row col
    fault_found most p e = sym (rw (absent_is (answered p) e, entry_found p e))

    pub fault_none : (most k : ℕ) → lookup_place_within starts rows (length values) row col ≡ refused k → 2 ≡ pair_fault most starts rows values row col
    fault_none most k e = sym (rw (absent_is (refused k) e))
