-- The requests of a row pair, by computation: the columns 0 and 1 of the one row with the column 2 of the other.
-- Assumes nothing.
use Rattle.std.specs.Prelude.{◌≡◌, refl, true, false, [], ◌∷◌}
use Rattle.lists.specs.Test.{any, any_in}
use Rattle.request_marks.specs.CrossRequests.{cross_requested, CrossRequest}
use Rattle.request_marks.proofs.CrossRequests.{cross_requested_is}

cross_pair : cross_requested (0 ∷ 2 ∷ []) (0 ∷ 1 ∷ []) (0 ∷ 1 ∷ []) (2 ∷ []) (0 ∷ []) (0 ∷ []) 2 1 ≡ true
unfolding any any_in cross_requested
cross_pair = refl

-- two columns of one row alone are no request
cross_none : cross_requested (0 ∷ 2 ∷ []) (0 ∷ 1 ∷ []) (0 ∷ 1 ∷ []) (2 ∷ []) (0 ∷ []) (0 ∷ []) 1 0 ≡ false
unfolding any any_in cross_requested
cross_none = refl

-- `cross_requested_is`: some row pair has (2, 1)
cross_at : CrossRequest (0 ∷ 2 ∷ []) (0 ∷ 1 ∷ []) (0 ∷ 1 ∷ []) (2 ∷ []) (0 ∷ []) (0 ∷ []) 2 1
cross_at = (cross_requested_is (0 ∷ 2 ∷ []) (0 ∷ 1 ∷ []) (0 ∷ 1 ∷ []) (2 ∷ []) (0 ∷ []) (0 ∷ []) 2 1).0 cross_pair
