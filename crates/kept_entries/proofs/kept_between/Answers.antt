use borrow.Author.Tests.{le-leb}
use mathlib.Core.Bool.{Bool}
use mathlib.Core.List.{List, []}
use mathlib.Core.Path.{◌≡◌, sym, ◌∙◌}
use native.Mathlib.Omega.{arith}
use Prim.Native.Nat.{ℕ}
use Rattle.lists.specs.Select.{select, select_none, select_join, select_gap, select_cong, tally}
use Rattle.columns.specs.Kept.{kept}
use Rattle.columns.specs.Factor.{Column, FirstFrom}
use Rattle.columns.proofs.Diagonal.{first_from_from, first_from_dropped}
use Rattle.kept_entries.proofs.kept_between.Goals as goal

module _ {c : ℕ} {rows : List ℕ} {count s e p : ℕ} (C : Column rows count s e) (F : FirstFrom c rows s e p) (nz : ℕ → Bool) where
  -- the kept entries are those from the first place from row c on that are not 0
  kept_from : tally (kept rows nz c) s e ≡ tally nz p e
  kept_from =
      let gap = select_gap (kept rows nz c) s s p (omega arith) F.from (first_from_dropped C F nz) in
      let a : select (kept rows nz c) s p ≡ [] = gap ∙ select_none (kept rows nz c) s in
      let b = select_cong (kept rows nz c) nz p e (λ k lo hi. rw (le-leb _ _ (first_from_from C F k lo hi))) in
      rw (select_join (kept rows nz c) s p e F.from F.upto, a, b)

pub returns : goal.returns
returns g c = c.nonzero_between.ensures ∙ sym (kept_from c.requires c.first_from-first.ensures (g.T.StoredValue.kept c.args.values.now))
