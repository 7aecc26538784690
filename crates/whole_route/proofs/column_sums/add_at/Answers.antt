use Prim.Native.Nat.{ℕ}
use native.Mathlib.Omega.{arith}
use mathlib.Core.Path.{◌≡◌, sym, ap, subst, ◌∙◌}
use lib.ListN.{get_or, set}
use lib.IntN.{ℤ, pos, ◌+ℤ◌, ◌*ℤ◌}
use mir.Syntax.{w64}
use mir.Val.{to_z, of_z}
use mir.ValLaws.{to_z-of_z}
use borrow.Author.Rules.{rules}
use Rattle.exact.specs.Multiple.{Small}
use Rattle.whole_route.specs.ColumnSums.{with_whole_product}
use Rattle.whole_route.proofs.column_sums.add_at.Goals as goal

-- what is read at the place and at the position, and l
number_is-After-whole_at-2 : (c : goal.After-whole_at-2) → let a = c.args in to_z w64 (of_z w64 c.whole_at.result) ≡ get_or a.work.now a.place (pos 0)
number_is-After-whole_at-2 c = to_z-of_z w64 c.whole_at.result (record { sfits = c.whole_at.type_inv }) ∙ c.whole_at.ensures

-- what is read at the place and at the position, and l
number_is-After-plus_product-total : (c : goal.After-plus_product-total) → let a = c.args in to_z w64 (of_z w64 c.whole_at.result) ≡ get_or a.work.now a.place (pos 0)
number_is-After-plus_product-total c = to_z-of_z w64 c.whole_at.result (record { sfits = c.whole_at.type_inv }) ∙ c.whole_at.ensures

entry_is-After-whole_at-2 : (c : goal.After-whole_at-2) →
    let a = c.args in
    to_z w64 (of_z w64 c.whole_at-2.result) ≡ get_or a.work.now (get_or a.scratch.now a.word 0) (pos 0)
entry_is-After-whole_at-2 c =
    to_z-of_z w64 c.whole_at-2.result (record { sfits = c.whole_at-2.type_inv }) ∙ c.whole_at-2.ensures
    ∙ ap (λ (k : ℕ). get_or c.args.work.now k (pos 0)) c.at-position.ensures

entry_is-After-plus_product-total : (c : goal.After-plus_product-total) →
    let a = c.args in
    to_z w64 (of_z w64 c.whole_at-2.result) ≡ get_or a.work.now (get_or a.scratch.now a.word 0) (pos 0)
entry_is-After-plus_product-total c =
    to_z-of_z w64 c.whole_at-2.result (record { sfits = c.whole_at-2.type_inv }) ∙ c.whole_at-2.ensures
    ∙ ap (λ (k : ℕ). get_or c.args.work.now k (pos 0)) c.at-position.ensures

factor-is-After-whole_at-2 : (s : goal.After-whole_at-2) → to_z w64 (of_z w64 s.args.l) ≡ s.args.l
factor-is-After-whole_at-2 s = to_z-of_z w64 s.args.l s.ranges.l

factor-is-After-plus_product-total : (s : goal.After-plus_product-total) → to_z w64 (of_z w64 s.args.l) ≡ s.args.l
factor-is-After-plus_product-total s = to_z-of_z w64 s.args.l s.ranges.l

product_is-After-whole_at-2 : (c : goal.After-whole_at-2) →
    let a = c.args in
    to_z w64 (of_z w64 a.l) *ℤ to_z w64 (of_z w64 c.whole_at-2.result) ≡ a.l *ℤ get_or a.work.now (get_or a.scratch.now a.word 0) (pos 0)
product_is-After-whole_at-2 c = (λ i. factor-is-After-whole_at-2 c i *ℤ entry_is-After-whole_at-2 c i)

product_is-After-plus_product-total : (c : goal.After-plus_product-total) →
    let a = c.args in
    to_z w64 (of_z w64 a.l) *ℤ to_z w64 (of_z w64 c.whole_at-2.result) ≡ a.l *ℤ get_or a.work.now (get_or a.scratch.now a.word 0) (pos 0)
product_is-After-plus_product-total c = (λ i. factor-is-After-plus_product-total c i *ℤ entry_is-After-plus_product-total c i)

total_is-After-whole_at-2 : (c : goal.After-whole_at-2) →
    let a = c.args in
    to_z w64 (of_z w64 c.whole_at.result) +ℤ to_z w64 (of_z w64 a.l) *ℤ to_z w64 (of_z w64 c.whole_at-2.result)
    ≡ with_whole_product a.place a.word a.l a.scratch.now a.work.now
total_is-After-whole_at-2 c = (λ i. number_is-After-whole_at-2 c i +ℤ product_is-After-whole_at-2 c i)

total_is-After-plus_product-total : (c : goal.After-plus_product-total) →
    let a = c.args in
    to_z w64 (of_z w64 c.whole_at.result) +ℤ to_z w64 (of_z w64 a.l) *ℤ to_z w64 (of_z w64 c.whole_at-2.result)
    ≡ with_whole_product a.place a.word a.l a.scratch.now a.work.now
total_is-After-plus_product-total c = (λ i. number_is-After-plus_product-total c i +ℤ product_is-After-plus_product-total c i)

pub at-position-requires : goal.at-position-requires
at-position-requires c = c.requires.inside

pub whole_at-requires : goal.whole_at-requires
whole_at-requires c = c.requires.fits

pub whole_at-requires-2 : goal.whole_at-requires-2
whole_at-requires-2 c = omega (arith, c.at-position.ensures, c.requires.known)

pub plus_product-total-requires : goal.plus_product-total-requires
plus_product-total-requires c = (subst Small (sym (product_is-After-whole_at-2 c)) c.requires.product_small, subst Small (sym (total_is-After-whole_at-2 c)) c.requires.sum_small)

pub offset_bounds-work-place : goal.offset_bounds-work-place
offset_bounds-work-place c = let f = c.requires.fits in search rules

pub bounds-work-place : goal.bounds-work-place
bounds-work-place c = c.requires.fits

pub returns : goal.returns
returns c = let a = c.args in
    ap (λ (z : ℤ). set a.work.now a.place z)
    (to_z-of_z w64 c.plus_product-total.result (record { sfits = c.plus_product-total.type_inv }) ∙ c.plus_product-total.ensures ∙ total_is-After-plus_product-total c)
