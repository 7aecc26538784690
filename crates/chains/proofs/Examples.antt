-- Laws of specs/Examples.antt.
use Rattle.std.specs.Prelude.{ℕ, zero, suc, ◌≤◌, ◌<◌, ◌≡◌, refl, List, [], ◌∷◌, length, get_or}
use Rattle.std.proofs.Common.{arith, subst}
use Rattle.lists.specs.Test.{any}
use Rattle.closed_set.specs.ClosedSet.{reach, member, Pattern}
use Rattle.closed_set.proofs.ClosedSet.{descends_found, member_needed}
use Rattle.closed_set.specs.Requests.{requested, Requests}
use Rattle.closed_set.proofs.Requests.{requested_ranged}
use Rattle.closed_set.specs.Examples.{f3}
use Rattle.closed_set.proofs.Examples.{f3_holds}
use Rattle.chains.specs.Least.{least}
use Rattle.chains.specs.Distance.{distance}
use Rattle.chains.specs.Chain.{Shown}
use Rattle.chains.specs.Before.{above, beside, before_column, before_row}
use Rattle.chains.specs.ChainOf.{chain_back, chain_of}
use Rattle.chains.proofs.ChainOf.{chain_shown}
use Rattle.chains.specs.Examples.{path, fork}

-- F3, request (0, 0): the chain to (2, 1)
pub f3_chain : chain_of 3 f3 (requested (0 ∷ []) (0 ∷ [])) 2 1 ≡ (0, 0) ∷ (1, 0) ∷ (2, 1) ∷ []
unfolding chain_of chain_back distance above beside before_column before_row least reach member any requested f3
f3_chain = refl

-- and the laws hold of it
f3_below : (c d : ℕ) → (k : ℕ) × (k < length (f3 c)) × (get_or (f3 c) k 0 ≡ d) → (c ≡ 0) × (1 ≤ d) × (d ≤ 2)
unfolding f3
f3_below zero d (zero, l, e) = omega arith
f3_below zero d (suc zero, l, e) = omega arith
f3_below zero d (suc (suc k), l, e) = absurd (omega arith)
f3_below (suc c) d (k, l, e) = absurd (omega arith)

f3-pattern : Pattern 3 f3
f3-pattern = record {
  below = λ c d h e. omega (arith, f3_below c d (descends_found f3 c d e));
  inside = λ c d h e. omega (arith, f3_below c d (descends_found f3 c d e));
}

one_request : Requests 3 (0 ∷ []) (0 ∷ [])
one_request = record {
  equal = refl;
  rows_inside = λ k l. let z : 0 ≡ k = omega arith in subst (λ (i : ℕ). get_or (0 ∷ []) i 0 < 3) z (omega arith);
  columns_inside = λ k l. let z : 0 ≡ k = omega arith in subst (λ (i : ℕ). get_or (0 ∷ []) i 0 < 3) z (omega arith);
}

pub f3_shown : Shown f3 (requested (0 ∷ []) (0 ∷ [])) ((0, 0) ∷ (1, 0) ∷ (2, 1) ∷ []) 2 1
f3_shown =
    let R = requested_ranged (0 ∷ []) (0 ∷ []) 3 one_request in
    let s = (member_needed 3 f3 _ f3-pattern R 2 1 (omega arith) (omega arith)).0 f3_holds in
    subst (λ (l : List (ℕ × ℕ)). Shown f3 (requested (0 ∷ []) (0 ∷ [])) l 2 1) f3_chain (chain_shown 3 f3 _ f3-pattern R s)

-- a requested pair is its own chain
pub f3_itself : chain_of 3 f3 (requested (0 ∷ 1 ∷ []) (0 ∷ 0 ∷ [])) 1 0 ≡ (1, 0) ∷ []
unfolding chain_of chain_back distance above beside before_column before_row least reach member any requested f3
f3_itself = refl

-- (1, 0) and (2, 0) lead to (2, 1): in one column the lower row
pub f3_row : chain_of 3 f3 (requested (2 ∷ 1 ∷ []) (0 ∷ 0 ∷ [])) 2 1 ≡ (1, 0) ∷ (2, 1) ∷ []
unfolding chain_of chain_back distance above beside before_column before_row least reach member any requested f3
f3_row = refl

-- the closed set of (1, 1) lacks (2, 1)
pub f3_none : chain_of 3 f3 (requested (1 ∷ []) (1 ∷ [])) 2 1 ≡ []
unfolding chain_of chain_back distance above beside before_column before_row least reach member any requested f3
f3_none = refl

-- (1, 1) and (2, 0) lead to (2, 1): the lower column, though its row is higher
pub path_column : chain_of 3 path (requested (1 ∷ 2 ∷ []) (1 ∷ 0 ∷ [])) 2 1 ≡ (2, 0) ∷ (2, 1) ∷ []
unfolding chain_of chain_back distance above beside before_column before_row least reach member any requested path
path_column = refl

-- as many pairs as a chain in three columns can have: 2 * 3 - 1
pub path_longest : chain_of 3 path (requested (0 ∷ []) (0 ∷ [])) 2 2 ≡ (0, 0) ∷ (1, 0) ∷ (1, 1) ∷ (2, 1) ∷ (2, 2) ∷ []
unfolding chain_of chain_back distance above beside before_column before_row least reach member any requested path
path_longest = refl

-- to (3, 2) also by (3, 0) and (3, 1): the pair before the last decides, though (3, 0) is lower than (1, 1)
pub fork_back : chain_of 4 fork (requested (1 ∷ 3 ∷ []) (1 ∷ 0 ∷ [])) 3 2 ≡ (1, 1) ∷ (2, 1) ∷ (3, 2) ∷ []
unfolding chain_of chain_back distance above beside before_column before_row least reach member any requested fork
fork_back = refl
