-- From the marked requests to the closed set: the count and the words that closing leaves.
-- Assumes nothing.
use Prim.Native.Nat.{ℕ, ◌+◌, ◌≤◌, ◌<◌}
use native.Mathlib.Omega.{arith}
use native.Mathlib.Decide.{dec_le}
use mathlib.Core.Path.{◌≡◌, refl, sym, ◌∙◌}
use mathlib.Core.Bool.{Bool}
use mathlib.Core.List.{List}
use Rattle.lists.specs.Test.{same_truth}
use Rattle.pairs.specs.ColumnOrder.{column_marking}
use Rattle.pairs.proofs.ColumnOrder.{set_size_cong, set_size_le}
use Rattle.columns.specs.Kept.{pattern}
use Rattle.closed_set.specs.ClosedSet.{member, Pattern, Holds}
use Rattle.closed_set.proofs.ClosedSet.{member_holds, member_closed, member_least}
use Rattle.closed_set.specs.Size.{closure_size, requested_pairs}
use Rattle.closed_set.proofs.Size.{requested_pairs_within}
use Rattle.closed_set.proofs.FactorPattern.{factor_pattern}
use Rattle.selection.specs.Diagnosis.{closure_pairs}
use Rattle.closure.specs.Queue.{MarkedWithin, QueueClosed}
use Rattle.closure.specs.Closure.{ClosureInput, Requested, Closing, Closes}

-- the count and the words are those of the set
abbrev pub Counted : ℕ → (ℕ → List ℕ) → (ℕ → ℕ → Bool) → ℕ → List ℕ → ℕ → List ℕ → List ℕ → Type 0
Counted n desc req limit s₀ count stops s = (count ≡ closure_pairs n desc req limit) × Closing n desc req limit s₀ stops s

pub closes : {n : ℕ} {desc : ℕ → List ℕ} {limit : ℕ} {s₀ : List ℕ} {count : ℕ} {stops s : List ℕ}
    → ((req : ℕ → ℕ → Bool) → Requested n req s₀ → Counted n desc req limit s₀ count stops s) → Closes n desc limit s₀ count stops s
closes h = record { counts = λ req R. (h req R).0; leaves = λ req R. (h req R).1 }

module _ {n : ℕ} {starts rows : List ℕ} {values : ℕ} {stops s : List ℕ} {first : ℕ} (nz : ℕ → Bool) (limit : ℕ)
    (G : ClosureInput n starts rows values first stops s) where
  abbrev desc : ℕ → List ℕ
  desc = pattern starts rows nz

  P : Pattern n desc
  P = factor_pattern nz G.factor

  module _ (req : ℕ → ℕ → Bool) (R : Requested n req s) where
    requested_within : (S : ℕ → ℕ → Bool) → Holds req S → MarkedWithin n S s
    requested_within S h r c o l e = h r c (sym (R.marks r c o l) ∙ e)

    pub requested_size : first ≡ requested_pairs n req
    requested_size = G.marked.size ∙ set_size_cong n (column_marking n s) req R.marks

    requested_most : first ≤ closure_size n desc req
    requested_most = omega (arith, requested_size, requested_pairs_within n desc req P R.ranged)

    -- the requests are past the limit
    pub requests_past : limit < first → Counted n desc req limit s (limit + 1) stops s
    requests_past l = (
      omega (arith, requested_most),
      record {
        long = refl;
        marks = λ low. absurd (omega (arith, requested_most));
        reached = λ low. absurd (omega (arith, requested_most));
        later = refl;
      },
    )

    module _ {stops' t : List ℕ} {count : ℕ} (E : QueueClosed n starts rows nz limit s first stops' t count) where
      closed_within : MarkedWithin n (member n desc req) t
      closed_within = E.within (member n desc req) (member_closed n desc req P R.ranged) (requested_within (member n desc req) (member_holds n desc req P R.ranged))

      closed_most : count ≤ closure_size n desc req
      closed_most = omega (arith, E.marked.size, set_size_le n (column_marking n t) (member n desc req) closed_within)

      -- the set is past the limit, or it is marked
      pub queue_closed : Counted n desc req limit s count stops' t
      queue_closed = elim (dec_le count limit) [ yes l ↦ complete l | no l ↦ past l ]
        where
          past : (count ≤ limit → ⊥) → Counted n desc req limit s count stops' t
          past l = (
            omega (arith, closed_most, E.most, l),
            record {
              long = E.grown.long;
              marks = λ low. absurd (omega (arith, closed_most, l));
              reached = λ low. absurd (omega (arith, closed_most, l));
              later = E.grown.later;
            },
          )

          holds : Holds req (column_marking n t)
          holds r c q =
              let o = R.ranged.ordered r c q in
              let i = R.ranged.inside r c q in
              E.grown.marks r c o i (R.marks r c o i ∙ q)

          same : count ≤ limit → (r c : ℕ) → c ≤ r → r < n → column_marking n t r c ≡ member n desc req r c
          same l r c h m =
              same_truth _ _ (closed_within r c h m) (member_least n desc req P R.ranged (column_marking n t) (E.closed l) holds r c h m)

          complete : count ≤ limit → Counted n desc req limit s count stops' t
          complete l =
              let size = E.marked.size ∙ set_size_cong n (column_marking n t) (member n desc req) (same l) in (
                omega (arith, size),
                record { long = E.grown.long; marks = λ low. same l; reached = λ low. E.reached l; later = E.grown.later },
              )
