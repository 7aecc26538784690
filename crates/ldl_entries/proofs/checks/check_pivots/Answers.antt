use Prim.Native.Nat.{ℕ, ◌<◌, ◌≤◌}
use lib.Ieee.{Float, nan, le}
use Rattle.std.proofs.Common.{◌≡◌, Bool, true, false, List, length, take, MatchBool, sym, ◌∙◌, arith, rules, tests}
use Rattle.std.specs.List.{HoldsAt, AllWithin}
use Rattle.std.proofs.lemmas.List.{length-take-le, get_or-take}
use Rattle.std.proofs.lemmas.Iterator.{cases_from_any, YieldsList-from_slice}
use Rattle.lists.specs.Test.{any, any-hit, any_all}
use Rattle.refusal.proofs.Steps.{first_hit, first_skip, first_end}
use Rattle.columns.specs.Kept.{f0}
use Rattle.columns.specs.Pivots.{low_pivot, pivot_steps}
use Rattle.ldl_entries.proofs.checks.check_pivots.Goals as goal

-- what the look at the first n pivots says
abbrev AnyLow : ℕ → List Float → Bool → Type 0
AnyLow n xs r = MatchBool r ((k : ℕ) × (k < length (take n xs)) × HoldsAt (λ x. le x f0 ≡ true) (take n xs) k) (AllWithin (λ x. le x f0 ≡ false) (take n xs) 0 (length (take n xs)))

low : (n : ℕ) (xs : List Float) → n ≤ length xs → (r : Bool) → AnyLow n xs r → any (low_pivot xs) n ≡ r
low n xs long true h =
    let l : h.0 < n = omega (arith, h.1, length-take-le n xs long) in
    any-hit (low_pivot xs) n h.0 l (rw get_or-take at (h.2 nan))
low n xs long false h =
    any_all (low_pivot xs) n
    (λ k l.
    let at = h k nan (omega arith) (omega (arith, length-take-le n xs long)) in
    rw get_or-take at at)

pub returns-then-any : goal.returns-then-any
unfolding pivot_steps
returns-then-any c =
    let xs = c.args.pivots.now in
    let n = c.args.n in
    let found = cases_from_any _ _ _ (λ x. le x f0 ≡ true) (λ x. le x f0 ≡ false) c.any.ensures.ran (YieldsList-from_slice (take n xs) cc) (λ x q k. search (rules, tests)) (λ x q k. search (rules, tests)) in
    sym (first_hit 6 _ tt (low n xs c.requires _ found ∙ c.if-any.true))

pub returns : goal.returns
unfolding pivot_steps
returns c =
    let xs = c.args.pivots.now in
    let n = c.args.n in
    let found = cases_from_any _ _ _ (λ x. le x f0 ≡ true) (λ x. le x f0 ≡ false) c.any.ensures.ran (YieldsList-from_slice (take n xs) cc) (λ x q k. search (rules, tests)) (λ x q k. search (rules, tests)) in
    sym (first_skip 6 _ tt (low n xs c.requires _ found ∙ c.if-any.false) (first_end tt))
