-- Laws of specs/Examples.antt.
use Rattle.std.specs.Prelude.{ℕ, ◌≡◌, refl, true, false, List, [], ◌∷◌}
use Rattle.lists.specs.Test.{any}
use Rattle.lists.specs.Sum.{sum_to}
use Rattle.lists.specs.Select.{picked, select}
use Rattle.lists.specs.Cells.{cell_count}
use Rattle.closed_set.specs.ClosedSet.{reach, member}
use Rattle.closed_set.specs.Requests.{requested}
use Rattle.closed_set.specs.Size.{closure_size, requested_pairs}
use Rattle.closed_set.specs.Examples.{f2, f3}

pub f2_first : closure_size 2 f2 (requested (0 ∷ []) (0 ∷ [])) ≡ 3
unfolding f2 any sum_to picked select cell_count reach member requested
f2_first = refl

pub f2_below : closure_size 2 f2 (requested (1 ∷ []) (0 ∷ [])) ≡ 2
unfolding f2 any sum_to picked select cell_count reach member requested
f2_below = refl

pub f2_last : closure_size 2 f2 (requested (1 ∷ []) (1 ∷ [])) ≡ 1
unfolding f2 any sum_to picked select cell_count reach member requested
f2_last = refl

-- the closed set of (1, 1) lacks (0, 0)
pub f2_last_lacks : member 2 f2 (requested (1 ∷ []) (1 ∷ [])) 0 0 ≡ false
unfolding f2 any reach member requested
f2_last_lacks = refl

-- (0, 1) and (1, 0) are one pair
pub f2_repeated : requested_pairs 2 (requested (0 ∷ 1 ∷ []) (1 ∷ 0 ∷ [])) ≡ 1
unfolding any sum_to picked select cell_count requested
f2_repeated = refl

pub f2_none : closure_size 2 f2 (requested [] []) ≡ 0
unfolding f2 any sum_to picked select cell_count reach member requested
f2_none = refl

pub none_none : (desc : ℕ → List ℕ) → closure_size 0 desc (requested [] []) ≡ 0
unfolding sum_to cell_count
none_none desc = refl

pub f3_first : closure_size 3 f3 (requested (0 ∷ []) (0 ∷ [])) ≡ 6
unfolding f3 any sum_to picked select cell_count reach member requested
f3_first = refl

-- F3's closed set holds (2, 1), which F3 lacks
pub f3_holds : member 3 f3 (requested (0 ∷ []) (0 ∷ [])) 2 1 ≡ true
unfolding f3 any reach member requested
f3_holds = refl
