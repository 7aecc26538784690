use Prim.Native.Nat.{ℕ, ◌+◌, ◌^◌}
use native.Mathlib.Omega.{arith}
use mathlib.Core.Path.{◌≡◌, ap₂, subst, ◌∙◌}
use lib.Dec.{lit≤}
use lib.ListN.{get_or}
use lib.IntN.{pos, ◌+ℤ◌}
use mir.Syntax.{w64}
use mir.Val.{to_z, of_z}
use mir.ValLaws.{to_z-of_z}
use borrow.Author.Rules.{rules}
use Rattle.pairs.specs.Scratch.{queue_start}
use Rattle.pairs.specs.ColumnOrder.{col_start}
use Rattle.columns.specs.Columns.{row}
use Rattle.columns.specs.Factor.{FirstFrom}
use Rattle.whole_steps.specs.Machine.{fits_both}
use Rattle.whole_route.specs.ColumnSums.{ColumnSums, column_sums, BelowAt, sum_from, high_term}
use Rattle.whole_route.proofs.ColumnSumLaws.{high_skip, high_sum_input, high_sum_is, high_added, place_fits}
use Rattle.whole_route.proofs.column_sums.add_high.Goals as goal

abbrev column-After-column_base : goal.After-column_base → ColumnSums
column-After-column_base s =
    let a = s.args in
    column_sums a.n a.j a.first a.count a.s a.e a.listed.now a.rows.now a.values.now a.scratch.now

abbrev column-After-whole_at : goal.After-whole_at → ColumnSums
column-After-whole_at s =
    let a = s.args in
    column_sums a.n a.j a.first a.count a.s a.e a.listed.now a.rows.now a.values.now a.scratch.now

abbrev column-After-sum-total : goal.After-sum-total → ColumnSums
column-After-sum-total s =
    let a = s.args in
    column_sums a.n a.j a.first a.count a.s a.e a.listed.now a.rows.now a.values.now a.scratch.now

-- the row is below the diagonal
below-After-column_base : (c : goal.After-column_base) → BelowAt (column-After-column_base c) c.args.q
below-After-column_base c = (c.requires.one, omega (arith, c.if-i-j.false, c.at-i.ensures))

-- the row is below the diagonal
below-After-whole_at : (c : goal.After-whole_at) → BelowAt (column-After-whole_at c) c.args.q
below-After-whole_at c = (c.requires.one, omega (arith, c.if-i-j.false, c.at-i.ensures))

-- the row is below the diagonal
below-After-sum-total : (c : goal.After-sum-total) → BelowAt (column-After-sum-total c) c.args.q
below-After-sum-total c = (c.requires.one, omega (arith, c.if-i-j.false, c.at-i.ensures))

-- where the greater rows start
from-After-column_base : (c : goal.After-column_base) →
    let a = c.args in
    FirstFrom (row a.listed.now a.q + 1) a.rows.now a.f a.e c.first_from-from.result
from-After-column_base c =
    let a = c.args in
    subst (λ (k : ℕ). FirstFrom (k + 1) a.rows.now a.f a.e c.first_from-from.result) c.at-i.ensures c.first_from-from.ensures

-- where the greater rows start
from-After-whole_at : (c : goal.After-whole_at) →
    let a = c.args in
    FirstFrom (row a.listed.now a.q + 1) a.rows.now a.f a.e c.first_from-from.result
from-After-whole_at c =
    let a = c.args in
    subst (λ (k : ℕ). FirstFrom (k + 1) a.rows.now a.f a.e c.first_from-from.result) c.at-i.ensures c.first_from-from.ensures

-- where the greater rows start
from-After-sum-total : (c : goal.After-sum-total) →
    let a = c.args in
    FirstFrom (row a.listed.now a.q + 1) a.rows.now a.f a.e c.first_from-from.result
from-After-sum-total c =
    let a = c.args in
    subst (λ (k : ℕ). FirstFrom (k + 1) a.rows.now a.f a.e c.first_from-from.result) c.at-i.ensures c.first_from-from.ensures

base-After-column_base : (c : goal.After-column_base) →
    let a = c.args in
    c.column_base.result + row a.listed.now a.q ≡ queue_start a.n + col_start a.n (row a.listed.now a.q)
base-After-column_base c =
    let a = c.args in
    subst (λ (k : ℕ). c.column_base.result + k ≡ queue_start a.n + col_start a.n k) c.at-i.ensures c.column_base.ensures

base-After-whole_at : (c : goal.After-whole_at) →
    let a = c.args in
    c.column_base.result + row a.listed.now a.q ≡ queue_start a.n + col_start a.n (row a.listed.now a.q)
base-After-whole_at c =
    let a = c.args in
    subst (λ (k : ℕ). c.column_base.result + k ≡ queue_start a.n + col_start a.n k) c.at-i.ensures c.column_base.ensures

base-After-sum-total : (c : goal.After-sum-total) →
    let a = c.args in
    c.column_base.result + row a.listed.now a.q ≡ queue_start a.n + col_start a.n (row a.listed.now a.q)
base-After-sum-total c =
    let a = c.args in
    subst (λ (k : ℕ). c.column_base.result + k ≡ queue_start a.n + col_start a.n k) c.at-i.ensures c.column_base.ensures

more-is-After-whole_at : (c : goal.After-whole_at) →
    to_z w64 (of_z w64 c.high_sum-more.result) ≡ sum_from (high_term (column-After-whole_at c) c.args.work.now c.args.q) c.args.s c.args.e
more-is-After-whole_at c =
    to_z-of_z w64 c.high_sum-more.result (record { sfits = c.high_sum-more.type_inv }) ∙ c.high_sum-more.ensures
    ∙ high_sum_is c.requires (below-After-whole_at c) (from-After-whole_at c) c.column_base.result (base-After-whole_at c) c.args.e c.first_from-from.ensures.upto (omega arith)

more-is-After-sum-total : (c : goal.After-sum-total) →
    to_z w64 (of_z w64 c.high_sum-more.result) ≡ sum_from (high_term (column-After-sum-total c) c.args.work.now c.args.q) c.args.s c.args.e
more-is-After-sum-total c =
    to_z-of_z w64 c.high_sum-more.result (record { sfits = c.high_sum-more.type_inv }) ∙ c.high_sum-more.ensures
    ∙ high_sum_is c.requires (below-After-sum-total c) (from-After-sum-total c) c.column_base.result (base-After-sum-total c) c.args.e c.first_from-from.ensures.upto (omega arith)

low_is-After-whole_at : (c : goal.After-whole_at) →
    let a = c.args in
    to_z w64 (of_z w64 c.whole_at.result) ≡ get_or a.work.now (a.first + a.q) (pos 0)
low_is-After-whole_at c = to_z-of_z w64 c.whole_at.result (record { sfits = c.whole_at.type_inv }) ∙ c.whole_at.ensures

low_is-After-sum-total : (c : goal.After-sum-total) →
    let a = c.args in
    to_z w64 (of_z w64 c.whole_at.result) ≡ get_or a.work.now (a.first + a.q) (pos 0)
low_is-After-sum-total c = to_z-of_z w64 c.whole_at.result (record { sfits = c.whole_at.type_inv }) ∙ c.whole_at.ensures

pub at-i-requires : goal.at-i-requires
at-i-requires c = let P = c.requires in omega (arith, P.one, P.long)

pub returns-then-i-j : goal.returns-then-i-j
returns-then-i-j c = high_skip c.requires (omega (arith, c.at-i.ensures, c.if-i-j.true))

pub overflow_add-i : goal.overflow_add-i
overflow_add-i c = let P = c.requires in omega (arith, c.at-i.ensures, P.row_inside, P.small)

pub first_from-from-requires : goal.first_from-from-requires
first_from-from-requires c = let P = c.requires in (P.upto, P.column.stored)

pub column_base-requires : goal.column_base-requires
column_base-requires c = let P = c.requires in
    (P.small, omega (arith, c.at-i.ensures, P.row_inside))

pub high_sum-more-requires : goal.high_sum-more-requires
high_sum-more-requires c = high_sum_input c.requires (below-After-column_base c) (from-After-column_base c) c.column_base.result (base-After-column_base c)

pub overflow_add-first : goal.overflow_add-first
overflow_add-first c = let P = c.requires in omega (arith, P.one, P.fits)

pub whole_at-requires : goal.whole_at-requires
whole_at-requires c = place_fits c.requires

pub sum-total-requires : goal.sum-total-requires
sum-total-requires c = fits_both ◌+ℤ◌ {k = 2 ^ 53} (low_is-After-whole_at c) (more-is-After-whole_at c) (lit≤ tt) (record { size = c.requires.total_small (below-After-whole_at c) })

pub overflow_add-total : goal.overflow_add-total
overflow_add-total c = let P = c.requires in omega (arith, P.one, P.fits)

pub offset_bounds-work-first : goal.offset_bounds-work-first
offset_bounds-work-first c = let f = place_fits c.requires in search rules

pub bounds-work-first : goal.bounds-work-first
bounds-work-first c = place_fits c.requires

pub returns : goal.returns
returns c = high_added c.requires (below-After-sum-total c) (from-After-sum-total c)
    (to_z-of_z w64 c.sum-total.result (record { sfits = c.sum-total.type_inv }) ∙ c.sum-total.ensures ∙ ap₂ ◌+ℤ◌ (low_is-After-sum-total c) (more-is-After-sum-total c))
