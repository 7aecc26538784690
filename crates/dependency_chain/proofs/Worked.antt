-- F3 of document 01, the request (0, 0): the chain to (2, 1), as a call lists it, and what the laws of a reply give of it. F3's columns have the
-- descendants 1 and 2 of column 0, and no other.
-- Assumes nothing.
use Rattle.std.specs.Prelude.{ℕ, ◌≤◌, ◌≡◌, refl, List, [], ◌∷◌, length}
use Rattle.std.proofs.Common.{lit≤, lit<}
use Rattle.std.specs.Float.Ieee.{of_int, of_bits, ne, le}
use Rattle.lists.specs.Test.{any, any_in}
use Rattle.lists.specs.Tabulate.{tabulate}
use Rattle.lists.specs.Overwrite.{overwrite, filled}
use Rattle.lists.specs.Select.{select, picked}
use Rattle.refusal.specs.Steps.{Reply, answered, first, after}
use Rattle.pairs.specs.Pair.{pair_total}
use Rattle.pairs.specs.Scratch.{chain_words}
use Rattle.columns.specs.Columns.{bound_steps, broken_steps, starts_steps, rows_steps, column_steps}
use Rattle.columns.specs.Stored.{finite_steps, stored_steps}
use Rattle.columns.specs.Diagonal.{diagonal_steps}
use Rattle.columns.specs.Kept.{nonzero, pattern}
use Rattle.columns.specs.Examples.{f3_starts, f3_rows, f3_values}
use Rattle.closed_set.specs.ClosedSet.{reach, member}
use Rattle.closed_set.specs.Requests.{requested}
use Rattle.chains.specs.Least.{least}
use Rattle.chains.specs.Distance.{distance}
use Rattle.chains.specs.Chain.{Chain}
use Rattle.chains.specs.Before.{above, beside, before_column, before_row}
use Rattle.chains.specs.ChainOf.{chain_back, chain_of}
use Rattle.selection.specs.RequestSteps.{request_steps}
use Rattle.dependency_chain.specs.Chain.{ChainCall, chain_call, seek_steps, chain_room_steps, asked_steps, chain_steps, ChainListed}
use Rattle.dependency_chain.specs.Answer.{ChainAnswer, Asked}
use Rattle.dependency_chain.proofs.Answer.{places_enough, reply_none, reply_chain}

-- the chain to (2, 1) with the request (row, column)
abbrev f3-call : ℕ → ℕ → ChainCall
f3-call row column = chain_call 3 f3_starts f3_rows f3_values 3 (row ∷ []) (column ∷ []) 2 1

-- lists of 2n - 1 places, and scratch of 2T + 4n words
abbrev nines : ℕ → List ℕ
nines = tabulate (λ _. 9)

-- the reply of the request (0, 0) is 3, and the lists begin with (0, 0), (1, 0), (2, 1)
f3_listed : ChainListed (f3-call 0 0) (nines 24) (nines 5) (nines 5) (answered 3) (tabulate (λ _. 0) 24) (0 ∷ 1 ∷ 2 ∷ 9 ∷ 9 ∷ []) (0 ∷ 0 ∷ 1 ∷ 9 ∷ 9 ∷ [])
unfolding any any_in picked select tabulate filled overwrite of_int of_bits ne le first after pair_total bound_steps broken_steps starts_steps rows_steps column_steps finite_steps stored_steps
    request_steps diagonal_steps seek_steps asked_steps chain_words chain_steps chain_room_steps chain_of chain_back distance above beside before_column before_row least reach member requested
f3_listed = record { answer = refl; scratch_after = refl; rows_after = refl; columns_after = refl }

-- `reply_chain`: the three pairs are the chain
f3_answer : ChainAnswer (pattern f3_starts f3_rows (nonzero f3_values)) (requested (0 ∷ []) (0 ∷ [])) 2 1 3 (0 ∷ 1 ∷ 2 ∷ 9 ∷ 9 ∷ []) (0 ∷ 0 ∷ 1 ∷ 9 ∷ 9 ∷ [])
f3_answer = reply_chain (f3-call 0 0) f3_listed refl (lit< tt)

-- so no chain to (2, 1) has two pairs
f3_shortest : (m : List (ℕ × ℕ)) → Chain (pattern f3_starts f3_rows (nonzero f3_values)) (requested (0 ∷ []) (0 ∷ [])) m 2 1 → 3 ≤ length m
f3_shortest = f3_answer.shortest

-- `places_enough`: whatever the reply, it is of 3 pairs, since 5 places are enough for any chain
f3_enough : {reply : Reply ℕ} {s' rows' columns' : List ℕ} → ChainListed (f3-call 0 0) (nines 24) (nines 5) (nines 5) reply s' rows' columns' → reply ≡ answered 3
unfolding any any_in picked select tabulate of_int of_bits ne le first pair_total bound_steps broken_steps starts_steps rows_steps column_steps finite_steps stored_steps
    request_steps diagonal_steps seek_steps asked_steps chain_words chain_of chain_back distance above beside before_column before_row least reach member requested
f3_enough C = places_enough (f3-call 0 0) C refl (lit≤ tt) (lit≤ tt)

-- `reply_none`: with the request (1, 1) the reply is 0, so (2, 1) is not in its closed set
f3_none : ChainListed (f3-call 1 1) (nines 24) [] [] (answered 0) (tabulate (λ _. 0) 24) [] []
unfolding any any_in picked select tabulate filled overwrite of_int of_bits ne le first after pair_total bound_steps broken_steps starts_steps rows_steps column_steps finite_steps stored_steps
    request_steps diagonal_steps seek_steps asked_steps chain_words chain_steps chain_room_steps chain_of chain_back distance above beside before_column before_row least reach member requested
f3_none = record { answer = refl; scratch_after = refl; rows_after = refl; columns_after = refl }

f3_lacks : Asked (f3-call 1 1) → ⊥
f3_lacks = (reply_none (f3-call 1 1) f3_none refl).0 refl
