-- A permutation's checks, its inverse and the reordering of a list by it. `perm` is orig_to_perm: original index i stands at perm i in factor order.
-- Assumes nothing.
use Rattle.std.specs.Prelude.{ℕ, ◌+◌, ◌<◌, ◌≡◌, Bool, not, cond, List, [], ◌∷◌, ◌++◌, leb, ltb, eqb, length, get_or}
use Rattle.lists.specs.Test.{any}
use Rattle.lists.specs.Place.{place_from}
use Rattle.lists.specs.Tabulate.{tabulate}
use Rattle.refusal.specs.Steps.{Step, each}
use Rattle.refusal.specs.Bounds.{max_dimension}

-- element i of a list of indices
abbrev pub index : List ℕ → ℕ → ℕ
index l i = get_or l i 0

-- k is among the first i elements
abbrev pub among : List ℕ → ℕ → ℕ → Bool
among perm i k = any (λ j. eqb (index perm j) k) i

-- the faults of element i: 10, its index is too large; 11, it is repeated
abbrev pub index_steps : List ℕ → ℕ → List Step
index_steps perm i = (10, leb (length perm) (index perm i)) ∷ (11, among perm i (index perm i)) ∷ []

-- 12, the other list disagrees: it does not lead back to i
abbrev pub inverse_steps : List ℕ → List ℕ → ℕ → List Step
inverse_steps perm inv i = (12, not (eqb (index inv (index perm i)) i)) ∷ []

-- the faults of element i, with those of the other list where it is compared
abbrev pub element_steps : Bool → List ℕ → List ℕ → ℕ → List Step
element_steps compared perm inv i = index_steps perm i ++ cond compared (inverse_steps perm inv i) []

-- 1: a list that is read is too long
abbrev pub long_step : {A : Type 0} → List A → Step
long_step l = (1, ltb max_dimension (length l))

-- 7: an output of that length is shorter than the permutation
abbrev pub room_step : List ℕ → ℕ → Step
room_step perm room = (7, ltb room (length perm))

-- 10 and 11, element by element
abbrev pub permutation_steps : List ℕ → List Step
permutation_steps perm = each (index_steps perm) (length perm)

-- 4, it is not n long; then those
abbrev pub order_steps : ℕ → List ℕ → List Step
order_steps n perm = (4, not (eqb (length perm) n)) ∷ permutation_steps perm

-- 10 and 11, then 7 for an output of that length
abbrev pub accept_steps : List ℕ → ℕ → List Step
accept_steps perm room = permutation_steps perm ++ room_step perm room ∷ []

-- what `validate` refuses
abbrev pub validate_steps : List ℕ → List ℕ → List Step
validate_steps perm inv =
    long_step perm ∷ long_step inv ∷ (12, not (eqb (length perm) (length inv))) ∷ each (λ i. index_steps perm i ++ inverse_steps perm inv i) (length perm)

-- what `from_orig_to_perm` refuses, with an output of that length
abbrev pub invert_steps : List ℕ → ℕ → List Step
invert_steps perm room = long_step perm ∷ accept_steps perm room

-- what `permute_factor_to_original` refuses, with an output of that length
abbrev pub permute_steps : {A : Type 0} → List ℕ → List A → ℕ → List Step
permute_steps perm input room =
    long_step perm ∷ long_step input ∷ (4, not (eqb (length input) (length perm))) ∷ accept_steps perm room

-- what its marked form refuses, with lists of values and of marks and outputs of these lengths
abbrev pub marked_steps : List ℕ → ℕ → ℕ → ℕ → ℕ → List Step
marked_steps perm input marks room marksRoom =
    long_step perm
    ∷ (1, ltb max_dimension input)
    ∷ (1, ltb max_dimension marks)
    ∷ (4, not (eqb input (length perm)))
    ∷ (4, not (eqb marks (length perm)))
    ∷ (accept_steps perm room ++ room_step perm marksRoom ∷ [])

-- where x stands in the list
abbrev pub index_place : List ℕ → ℕ → ℕ
index_place perm x = place_from perm x 0 (length perm)

-- the inverse list: where 0 stands, where 1 stands, ..
unfoldable pub inverse_of : List ℕ → List ℕ
inverse_of perm = tabulate (index_place perm) (length perm)

-- the list in original order: element i is that at perm i; `blank` stands for what lies past the end of a list
unfoldable pub reordered : {A : Type 0} → A → List ℕ → List A → List A
reordered blank perm input = tabulate (λ i. get_or input (index perm i) blank) (length perm)

-- each index of 0 to n - 1 stands in the list exactly once
pub record Permutation (perm : List ℕ) : Type 0 where
  pub inside : (i : ℕ) → i < length perm → index perm i < length perm
  pub distinct : (i j : ℕ) → i < length perm → j < length perm → index perm i ≡ index perm j → i ≡ j
  pub onto : (k : ℕ) → k < length perm → (i : ℕ) × (i < length perm) × (index perm i ≡ k)
