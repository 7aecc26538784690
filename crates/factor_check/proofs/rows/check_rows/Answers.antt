use mathlib.Core.Bool.{Bool, true, false}
use mathlib.Core.List.{List, []}
use mathlib.Core.Path.{◌≡◌, refl, sym, ◌∙◌}
use Prim.Native.Nat.{ℕ}
use Rattle.lists.specs.Test.{any}
use Rattle.columns.specs.Columns.{outside, unsorted, rows_steps}
use Rattle.refusal.specs.Steps.{verdict, refused}
use Rattle.refusal.proofs.Steps.{first_hit, first_skip, first_end}
use borrow.Author.Rules.{rules}
use Rattle.factor_check.proofs.rows.check_rows.Goals as goal

-- a column that does not ascend is refused, whether or not a row is outside
unsorted-refused : (n : ℕ) (starts rows : List ℕ) → any (unsorted starts rows) n ≡ true → verdict (rows_steps n starts rows) ≡ refused 3
unfolding rows_steps
unsorted-refused n starts rows t = by_rows (outside n rows) refl
  where
    by_rows : (b : Bool) → outside n rows ≡ b → verdict (rows_steps n starts rows) ≡ refused 3
    by_rows true e = first_hit 3 _ tt e
    by_rows false e = first_skip 3 _ tt e (first_hit 3 [] tt t)

pub returns-then-column_unsorted : goal.returns-then-column_unsorted
returns-then-column_unsorted c = sym (unsorted-refused _ _ _ (sym c.column_unsorted.ensures ∙ c.if-column_unsorted.true))

pub row_outside-requires : goal.row_outside-requires
row_outside-requires c = (search rules, sym c.column_unsorted.ensures ∙ c.if-column_unsorted.false)

pub returns-then-row_outside : goal.returns-then-row_outside
unfolding rows_steps
returns-then-row_outside c = sym (first_hit _ _ _ (sym c.row_outside.ensures ∙ c.if-row_outside.true))

pub returns : goal.returns
unfolding rows_steps
returns c = sym
    (first_skip _ _ _ (sym c.row_outside.ensures ∙ c.if-row_outside.false)
    (first_skip _ _ _ (sym c.column_unsorted.ensures ∙ c.if-column_unsorted.false)
    (first_end _)))
