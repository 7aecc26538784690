-- Laws of specs/Requests.antt.
use Rattle.std.specs.Prelude.{ℕ, ◌<◌, min, max, ◌≡◌, true, List, length, get_or}
use Rattle.std.proofs.Common.{arith}
use Rattle.std.proofs.Math.Path.{refl}
use Rattle.lists.specs.Test.{any-hit, any_found}
use Rattle.pairs.specs.Pair.{ordered}
use Rattle.pairs.proofs.Pair.{ordered_is, is_ordered}
use Rattle.closed_set.specs.ClosedSet.{Ranged}
use Rattle.closed_set.specs.Requests.{requested, Requests}

module _ (rows columns : List ℕ) where
  -- a request's pair, put in order
  pub requested_at : (k : ℕ) → k < length rows → requested rows columns (max (get_or rows k 0) (get_or columns k 0)) (min (get_or rows k 0) (get_or columns k 0)) ≡ true
  unfolding requested
  requested_at k l = any-hit _ (length rows) k l (is_ordered (get_or rows k 0) (get_or columns k 0) _ _ refl refl)

  -- a requested pair's request
  pub requested_found : (r c : ℕ) → requested rows columns r c ≡ true
      → (k : ℕ) × (k < length rows) × (r ≡ max (get_or rows k 0) (get_or columns k 0)) × (c ≡ min (get_or rows k 0) (get_or columns k 0))
  unfolding requested
  requested_found r c e =
      let f = any_found (λ k. ordered (get_or rows k 0) (get_or columns k 0) r c) (length rows) e in
      let o = ordered_is (get_or rows f.0 0) (get_or columns f.0 0) r c f.2 in
      (f.0, f.1, o.0, o.1)

  -- requested pairs are in order, and below n
  pub requested_ranged : (n : ℕ) → Requests n rows columns → Ranged n (requested rows columns)
  requested_ranged n Q = record {
    ordered = λ r c e. let f = requested_found r c e in omega arith;
    inside = λ r c e.
        let f = requested_found r c e in
        omega (arith, Q.rows_inside f.0 f.1, Q.equal, Q.columns_inside f.0 (omega (arith, Q.equal)));
  }
