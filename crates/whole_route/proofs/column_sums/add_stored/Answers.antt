use Prim.Native.Nat.{ℕ, ◌+◌, ◌<◌}
use native.Mathlib.Omega.{arith}
use mathlib.Core.Path.{◌≡◌, sym, ap, subst, ◌∙◌}
use mathlib.Core.Bool.{true}
use lib.Dec.{ltb}
use lib.IntN.{ℤ}
use mir.Syntax.{w64}
use mir.Val.{to_z, of_z}
use mir.ValLaws.{to_z-of_z}
use borrow.Author.Tests.{lt-ltb}
use Rattle.lists.specs.Test.{and_both}
use Rattle.pairs.specs.Scratch.{queue_start}
use Rattle.pairs.specs.ColumnOrder.{col_start}
use Rattle.columns.specs.Columns.{row}
use Rattle.columns.specs.Factor.{FirstFrom}
use Rattle.columns.specs.WholeFactor.{not_zero, whole_value, whole_nonzero}
use Rattle.whole_route.specs.ColumnSums.{ColumnSums, column_sums, entry_counts, AddWholeRowsInput}
use Rattle.whole_route.proofs.ColumnSumLaws.{stored_none, above_none, zero_none, stored_rows, stored_added}
use Rattle.whole_route.proofs.column_sums.add_stored.Goals as goal

abbrev column-After-add_rows-arg-1 : goal.After-add_rows-arg-1 → ColumnSums
column-After-add_rows-arg-1 s =
    let a = s.args in
    column_sums a.n a.j a.first a.count a.p (a.p + 1) a.listed.now a.rows.now a.values.now a.scratch.now

abbrev column-After-work-1 : goal.After-work-1 → ColumnSums
column-After-work-1 s =
    let a = s.args in
    column_sums a.n a.j a.first a.count a.p (a.p + 1) a.listed.now a.rows.now a.values.now a.scratch.now

-- the entry is below the diagonal
under-After-add_rows-arg-1 : (c : goal.After-add_rows-arg-1) → let a = c.args in a.j < row a.rows.now a.p
under-After-add_rows-arg-1 c = omega (arith, c.if-k-j.false, c.at-k.ensures)

-- the entry is below the diagonal
under-After-work-1 : (c : goal.After-work-1) → let a = c.args in a.j < row a.rows.now a.p
under-After-work-1 c = omega (arith, c.if-k-j.false, c.at-k.ensures)

-- its value, and whether it is not 0
value-is-After-add_rows-arg-1 : (c : goal.After-add_rows-arg-1) → let a = c.args in to_z w64 (of_z w64 c.whole_at-l.result) ≡ whole_value a.values.now a.p
value-is-After-add_rows-arg-1 c = to_z-of_z w64 c.whole_at-l.result (record { sfits = c.whole_at-l.type_inv }) ∙ c.whole_at-l.ensures

-- its value, and whether it is not 0
value-is-After-work-1 : (c : goal.After-work-1) → let a = c.args in to_z w64 (of_z w64 c.whole_at-l.result) ≡ whole_value a.values.now a.p
value-is-After-work-1 c = to_z-of_z w64 c.whole_at-l.result (record { sfits = c.whole_at-l.type_inv }) ∙ c.whole_at-l.ensures

-- its value, and whether it is not 0
value-is-Else-is_nonzero : (c : goal.Else-is_nonzero) → let a = c.args in to_z w64 (of_z w64 c.whole_at-l.result) ≡ whole_value a.values.now a.p
value-is-Else-is_nonzero c = to_z-of_z w64 c.whole_at-l.result (record { sfits = c.whole_at-l.type_inv }) ∙ c.whole_at-l.ensures

tells-After-add_rows-arg-1 : (c : goal.After-add_rows-arg-1) → let a = c.args in whole_nonzero a.values.now a.p ≡ c.is_nonzero.result
tells-After-add_rows-arg-1 c = ap not_zero (sym (value-is-After-add_rows-arg-1 c)) ∙ sym c.is_nonzero.ensures

tells-After-work-1 : (c : goal.After-work-1) → let a = c.args in whole_nonzero a.values.now a.p ≡ c.is_nonzero.result
tells-After-work-1 c = ap not_zero (sym (value-is-After-work-1 c)) ∙ sym c.is_nonzero.ensures

tells-Else-is_nonzero : (c : goal.Else-is_nonzero) → let a = c.args in whole_nonzero a.values.now a.p ≡ c.is_nonzero.result
tells-Else-is_nonzero c = ap not_zero (sym (value-is-Else-is_nonzero c)) ∙ sym c.is_nonzero.ensures

kept-After-add_rows-arg-1 : (c : goal.After-add_rows-arg-1) → entry_counts (column-After-add_rows-arg-1 c) c.args.p ≡ true
kept-After-add_rows-arg-1 c =
    let a = c.args in
    and_both (ltb a.j (row a.rows.now a.p)) (whole_nonzero a.values.now a.p) (lt-ltb _ _ (under-After-add_rows-arg-1 c)) (tells-After-add_rows-arg-1 c ∙ c.if-is_nonzero.true)

kept-After-work-1 : (c : goal.After-work-1) → entry_counts (column-After-work-1 c) c.args.p ≡ true
kept-After-work-1 c =
    let a = c.args in
    and_both (ltb a.j (row a.rows.now a.p)) (whole_nonzero a.values.now a.p) (lt-ltb _ _ (under-After-work-1 c)) (tells-After-work-1 c ∙ c.if-is_nonzero.true)

-- where the sums start whose row is not less
from-After-add_rows-arg-1 : (c : goal.After-add_rows-arg-1) →
    let a = c.args in
    FirstFrom (row a.rows.now a.p) a.listed.now a.q a.count c.first_from-from.result
from-After-add_rows-arg-1 c =
    let a = c.args in
    subst (λ (k : ℕ). FirstFrom k a.listed.now a.q a.count c.first_from-from.result) c.at-k.ensures c.first_from-from.ensures

-- where the sums start whose row is not less
from-After-work-1 : (c : goal.After-work-1) →
    let a = c.args in
    FirstFrom (row a.rows.now a.p) a.listed.now a.q a.count c.first_from-from.result
from-After-work-1 c =
    let a = c.args in
    subst (λ (k : ℕ). FirstFrom k a.listed.now a.q a.count c.first_from-from.result) c.at-k.ensures c.first_from-from.ensures

base-After-add_rows-arg-1 : (c : goal.After-add_rows-arg-1) →
    let a = c.args in
    c.column_base.result + row a.rows.now a.p ≡ queue_start a.n + col_start a.n (row a.rows.now a.p)
base-After-add_rows-arg-1 c =
    let a = c.args in
    subst (λ (k : ℕ). c.column_base.result + k ≡ queue_start a.n + col_start a.n k) c.at-k.ensures c.column_base.ensures

base-After-work-1 : (c : goal.After-work-1) →
    let a = c.args in
    c.column_base.result + row a.rows.now a.p ≡ queue_start a.n + col_start a.n (row a.rows.now a.p)
base-After-work-1 c =
    let a = c.args in
    subst (λ (k : ℕ). c.column_base.result + k ≡ queue_start a.n + col_start a.n k) c.at-k.ensures c.column_base.ensures

pub at-k-requires : goal.at-k-requires
at-k-requires c = c.requires.stored

pub returns-then-k-j : goal.returns-then-k-j
returns-then-k-j c = stored_none c.requires (above_none c.requires (omega (arith, c.at-k.ensures, c.if-k-j.true)))

pub whole_at-l-requires : goal.whole_at-l-requires
whole_at-l-requires c = c.requires.weighed

pub first_from-from-requires : goal.first_from-from-requires
first_from-from-requires c = let P = c.requires in (P.ordered, P.long)

pub column_base-requires : goal.column_base-requires
column_base-requires c = let P = c.requires in
    (P.small, omega (arith, c.at-k.ensures, P.inside))

pub add_rows-requires : goal.add_rows-requires
add_rows-requires c = let a = c.args in
    subst (λ (l : ℤ). AddWholeRowsInput c.column_base.result a.first c.first_from-from.result a.count l a.listed.now a.scratch.now a.work.now)
    (sym (value-is-After-add_rows-arg-1 c)) (stored_rows c.requires (kept-After-add_rows-arg-1 c) (from-After-add_rows-arg-1 c) c.column_base.result (base-After-add_rows-arg-1 c))

pub shape_of-work-then-is_nonzero : goal.shape_of-work-then-is_nonzero
shape_of-work-then-is_nonzero c = c.add_rows.ensures.long

pub returns-then-is_nonzero : goal.returns-then-is_nonzero
returns-then-is_nonzero c = stored_added c.requires (kept-After-work-1 c) (from-After-work-1 c) c.column_base.result (base-After-work-1 c) (value-is-After-work-1 c) c.add_rows.ensures

pub returns : goal.returns
returns c = stored_none c.requires (zero_none c.requires (tells-Else-is_nonzero c ∙ c.if-is_nonzero.false))
