-- Pairs of a result of whole numbers: the entry, 0 where the lookup refuses, and faults, absent or beyond a size.
-- Assumes nothing.
use Rattle.std.specs.Prelude.{ℕ, Bool, cond, List, ltb, get_or, ℤ, pos, nat_abs}
use Rattle.std.proofs.Math.Bool.{not}
use Rattle.lists.specs.Sum.{bit}
use Rattle.refusal.specs.Steps.{settle}
use Rattle.result.specs.Lookup.{finds, lookup_of}

-- the entry of a pair, 0 where the lookup refuses
unfoldable pub entry_or_zero : List ℕ → List ℕ → List ℤ → ℕ → ℕ → ℤ
entry_or_zero starts rows values row col = settle (pos 0) (lookup_of (pos 0) starts rows values row col)

-- the pair is absent
unfoldable pub absent_pair : List ℕ → List ℕ → List ℤ → ℕ → ℕ → Bool
absent_pair starts rows values row col = not (finds (lookup_of (pos 0) starts rows values row col))

-- its entry is beyond `most` in size
abbrev pub beyond_pair : ℕ → List ℕ → List ℕ → List ℤ → ℕ → ℕ → Bool
beyond_pair most starts rows values row col = ltb most (nat_abs (entry_or_zero starts rows values row col))

-- 2 where the pair is absent, 1 where its entry is beyond `most` in size, else 0
abbrev pub pair_fault : ℕ → List ℕ → List ℕ → List ℤ → ℕ → ℕ → ℕ
pair_fault most starts rows values row col = cond (absent_pair starts rows values row col) 2 (bit (beyond_pair most starts rows values row col))

-- the fault of the cells at two places of a list
abbrev pub cell_fault : ℕ → List ℕ → List ℕ → List ℤ → List ℕ → ℕ → ℕ → ℕ
cell_fault most starts rows values cells p q = pair_fault most starts rows values (get_or cells p 0) (get_or cells q 0)
