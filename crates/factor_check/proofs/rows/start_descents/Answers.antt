use borrow.Author.Tests.{ltb-true, ltb-false, lt-ltb, le-ltb}
use mathlib.Core.Bool.{Bool, true, false, ◌||◌}
use mathlib.Core.Logic.{⊎_elim}
use mathlib.Core.Path.{◌≡◌, refl, sym, ap, ap₂, ◌∙◌}
use native.Mathlib.Omega.{arith}
use Prim.Native.Nat.{ℕ, ◌≤◌, ◌<◌, ◌+◌}
use lib.Dec.{ltb}
use Rattle.lists.specs.Test.{any_none, any_next, or_cases, or_left, or_right, same_truth}
use Rattle.lists.specs.Select.{tally, tally_most, any_in-tally}
use Rattle.columns.specs.Columns.{start, not_above, unsorted}
use Rattle.columns.proofs.Factor.{starts_end}
use Rattle.factor_check.proofs.rows.start_descents.Goals as goal

-- a count falls short of what rises by the same and t more, if it did before or t is above 0
falls-short : (count a r t : ℕ) → count ≤ a → (ltb count a || ltb 0 t) ≡ ltb (count + r) (a + r + t)
falls-short count a r t h = same_truth (ltb count a || ltb 0 t) (ltb (count + r) (a + r + t)) there (λ e. back (ltb-true _ _ e) (ltb count a) refl)
  where
    there : (ltb count a || ltb 0 t) ≡ true → ltb (count + r) (a + r + t) ≡ true
    there e =
        ⊎_elim
        (λ x. let l = ltb-true count a x in lt-ltb (count + r) (a + r + t) (omega arith))
        (λ x. let l = ltb-true 0 t x in lt-ltb (count + r) (a + r + t) (omega arith))
        (or_cases (ltb count a) (ltb 0 t) e)

    back : count + r < a + r + t → (b : Bool) → ltb count a ≡ b → (ltb count a || ltb 0 t) ≡ true
    back l true e = or_left _ (ltb 0 t) e
    back l false e = let m = ltb-false count a e in or_right (ltb count a) _ (lt-ltb 0 t (omega arith))

-- the descents below the end of column c
gain : (c : goal.After-start_descent-count) →
    tally (not_above c.args.rows.now) 1 (start c.args.starts.now (c.loop-c.c + 1))
    ≡ tally (not_above c.args.rows.now) 1 (start c.args.starts.now c.loop-c.c) + c.start_descent-count.result
    + tally (not_above c.args.rows.now) (start c.args.starts.now c.loop-c.c + 1) (start c.args.starts.now (c.loop-c.c + 1))
gain c = rw (c.at.ensures, c.at-in-loop-c.ensures) at c.start_descent-count.ensures

pub loop-c-init : goal.loop-c-init
loop-c-init c = (
  omega arith,
  any_none _
      ∙ sym (le-ltb 0 (tally (not_above c.args.rows.now) 1 (start c.args.starts.now 0))
      (omega (arith, tally_most (not_above c.args.rows.now) 1 (start c.args.starts.now 0), c.requires.zero))),
)

pub start_descent-count-requires : goal.start_descent-count-requires
start_descent-count-requires c = let S = c.requires in
    omega (arith, S.rising c.loop-c.c (omega arith), starts_end S (c.loop-c.c + 1) (omega arith))

pub overflow_add-count : goal.overflow_add-count
overflow_add-count c = omega (
  arith,
  gain c,
  tally_most (not_above c.args.rows.now) 1 (start c.args.starts.now (c.loop-c.c + 1)),
  starts_end c.requires (c.loop-c.c + 1) (omega arith),
)

pub loop-c-preserved : goal.loop-c-preserved
loop-c-preserved c = (
  omega (arith, gain c),
  any_next (unsorted c.args.starts.now c.args.rows.now) c.loop-c.c
      ∙ ap₂ ◌||◌ c.loop-c.invariant.1 (any_in-tally (not_above c.args.rows.now) _ _)
      ∙ falls-short c.loop-c.count _ c.start_descent-count.result _ c.loop-c.invariant.0
      ∙ ap (ltb (c.loop-c.count + c.start_descent-count.result)) (sym (gain c)),
)
