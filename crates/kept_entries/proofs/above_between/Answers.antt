use borrow.Author.Tests.{ltb-true, lt-ltb}
use mathlib.Core.Bool.{true}
use mathlib.Core.List.{List}
use mathlib.Core.Logic.{⊎_elim}
use mathlib.Core.Path.{◌≡◌, sym, ap, ◌∙◌}
use native.Mathlib.Nat.{eq-or-lt_of_le}
use native.Mathlib.Omega.{arith}
use Prim.Native.Nat.{ℕ, ◌<◌}
use lib.Dec.{ltb}
use Rattle.lists.specs.Test.{any_in, any_in_none, any_in-hit, any_in_found, same_truth}
use Rattle.columns.specs.Columns.{row}
use Rattle.columns.specs.Factor.{Column}
use Rattle.kept_entries.specs.Above.{above_diagonal}
use Rattle.kept_entries.proofs.above_between.Goals as goal

-- rows ascend, so the first is the least
first-decides : (c : ℕ) {rows : List ℕ} {values s e : ℕ} → Column rows values s e → s < e → ltb (row rows s) c ≡ any_in (above_diagonal rows c) s e
first-decides c {rows} {values} {s} {e} C h =
    same_truth (ltb (row rows s) c) (any_in (above_diagonal rows c) s e) (any_in-hit (above_diagonal rows c) s e s (omega arith) h) back
  where
    back : any_in (above_diagonal rows c) s e ≡ true → ltb (row rows s) c ≡ true
    back t =
        let f = any_in_found (above_diagonal rows c) s e t in
        let a : row rows f.0 < c = ltb-true _ _ f.3 in
        lt-ltb (row rows s) c
        (⊎_elim
        (λ q. omega (arith, ap (row rows) q))
        (λ l. omega (arith, C.ascends s f.0 (omega arith) l f.2))
        (eq-or-lt_of_le f.1))

pub returns-then-s-e : goal.returns-then-s-e
returns-then-s-e c = sym (ap (any_in (above_diagonal c.args.rows.now c.args.c) c.args.s) (sym c.if-s-e.true) ∙ any_in_none _ _)

pub returns : goal.returns
returns c = rw c.at.ensures (first-decides c.args.c c.requires (omega (arith, c.requires.ordered)))
