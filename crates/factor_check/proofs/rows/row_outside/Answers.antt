use borrow.Author.Tests.{ltb-true, ltb-false, leb-false, lt-leb, lt-ltb}
use mathlib.Core.Bool.{Bool, true, false, ◌&&◌}
use mathlib.Core.List.{List}
use mathlib.Core.Logic.{⊎_elim}
use mathlib.Core.Path.{◌≡◌, refl, sym, ap, ◌∙◌}
use native.Mathlib.Nat.{eq-or-lt_of_le}
use native.Mathlib.Omega.{arith}
use Prim.Native.Nat.{ℕ, ◌≤◌, ◌<◌, ◌-◌, ◌+◌}
use lib.Dec.{ltb}
use lib.ListN.{length}
use Rattle.lists.specs.Test.{any, any_none, any-hit, any_below, any_all, any_less, any_in_below, and_left, and_right}
use Rattle.columns.specs.Columns.{start, row, outside_at, not_above, unsorted}
use Rattle.columns.proofs.Factor.{starts_end, above_ascends}
use Rattle.factor_check.proofs.rows.row_outside.Goals as goal

module _ (n : ℕ) (starts rows : List ℕ) (c : ℕ) (sorted : unsorted starts rows c ≡ false)
    (inside : (ltb 0 (start starts (c + 1)) && outside_at n rows (start starts (c + 1) - 1)) ≡ false) where
  -- the last row of column c is below n
  last_inside : 0 < start starts (c + 1) → row rows (start starts (c + 1) - 1) < n
  last_inside h = leb-false _ _ (rw (lt-ltb 0 (start starts (c + 1)) h) at inside)

  -- and with it the rows before it
  column_inside : (k : ℕ) → start starts c ≤ k → k < start starts (c + 1) → row rows k < n
  column_inside k lo hi =
      ⊎_elim
      (λ q. omega (arith, ap (row rows) q, last_inside (omega arith)))
      (λ l. omega (
        arith,
        above_ascends rows (start starts c) (start starts (c + 1))
            (λ p a b. leb-false _ _ (any_in_below (not_above rows) (start starts c + 1) (start starts (c + 1)) p sorted (omega arith) b))
            k (start starts (c + 1) - 1) lo l (omega arith),
        last_inside (omega arith),
      ))
      (eq-or-lt_of_le (let z : k ≤ start starts (c + 1) - 1 = omega arith in z))

  -- no row of a column before it outside, so none up to its end
  next-inside : any (outside_at n rows) (start starts c) ≡ false → any (outside_at n rows) (start starts (c + 1)) ≡ false
  next-inside e = any_all (outside_at n rows) (start starts (c + 1)) (λ k l. by_place k l (ltb k (start starts c)) refl)
    where
      by_place : (k : ℕ) → k < start starts (c + 1) → (b : Bool) → ltb k (start starts c) ≡ b → outside_at n rows k ≡ false
      by_place k l true t = any_below (outside_at n rows) (start starts c) k e (ltb-true _ _ t)
      by_place k l false t = lt-leb _ _ (column_inside k (ltb-false _ _ t) l)

pub loop-c-init : goal.loop-c-init
loop-c-init c = rw c.requires.0.zero (any_none _)

pub last_outside-requires : goal.last_outside-requires
last_outside-requires c = rw c.at.ensures (starts_end c.requires.0 _ (omega arith))

pub returns-then-last_outside : goal.returns-then-last_outside
returns-then-last_outside c = let e = c.at.result in
    let t : (ltb 0 e && outside_at c.args.n c.args.rows.now (e - 1)) ≡ true = sym c.last_outside.ensures ∙ c.if-last_outside.true in
    let l : 0 < e = ltb-true _ _ (and_left _ _ t) in
    let m : e ≤ length c.args.rows.now = rw c.at.ensures (starts_end c.requires.0 _ (omega arith)) in
    sym (any-hit (outside_at c.args.n c.args.rows.now) (length c.args.rows.now) (e - 1) (omega arith) (and_right (ltb 0 e) _ t))

pub loop-c-preserved : goal.loop-c-preserved
loop-c-preserved c =
    next-inside c.args.n c.args.starts.now c.args.rows.now c.loop-c.c
    (any_below (unsorted c.args.starts.now c.args.rows.now) c.args.n c.loop-c.c c.requires.1 (omega arith))
    (rw c.at.ensures at (sym c.last_outside.ensures ∙ c.if-last_outside.false))
    c.loop-c.invariant

pub returns : goal.returns
returns c =
    let q : c.loop-c.c ≡ c.args.n = omega arith in
    sym (any_less _ _ _ c.loop-c.invariant (omega (arith, c.requires.0.last, ap (start c.args.starts.now) q)))
