use Prim.Native.Nat.{ℕ, ◌+◌, ◌<◌}
use native.Mathlib.Omega.{arith}
use mathlib.Core.Path.{◌≡◌, sym, ap, subst, ◌∙◌}
use mathlib.Core.Bool.{true}
use lib.ListN.{length, get_or}
use lib.IntN.{ℤ, pos, ◌+ℤ◌, ◌*ℤ◌}
use mir.Syntax.{w64}
use mir.Val.{to_z, of_z}
use mir.ValLaws.{to_z-of_z}
use borrow.Author.Rules.{rules}
use Rattle.columns.specs.Columns.{row}
use Rattle.columns.specs.WholeFactor.{not_zero, whole_value, whole_nonzero}
use Rattle.exact.specs.Multiple.{Small}
use Rattle.whole_route.specs.ColumnSums.{word_term}
use Rattle.whole_route.proofs.ColumnSumLaws.{zero_term}
use Rattle.whole_route.proofs.column_sums.add_high_term.Goals as goal

abbrev product-After-whole_at-then-is_nonzero-2 : goal.After-whole_at-then-is_nonzero-2 → ℤ
product-After-whole_at-then-is_nonzero-2 s =
    let a = s.args in
    word_term a.base a.rows.now a.values.now a.scratch.now a.work.now a.p

abbrev product-After-plus_product : goal.After-plus_product → ℤ
product-After-plus_product s =
    let a = s.args in
    word_term a.base a.rows.now a.values.now a.scratch.now a.work.now a.p

-- whether the value is not 0
tells-After-at : (c : goal.After-at) → let a = c.args in whole_nonzero a.values.now a.p ≡ c.is_nonzero.result
tells-After-at c =
    let v = c.whole_at in
    ap not_zero (sym (to_z-of_z w64 v.result (record { sfits = v.type_inv }) ∙ v.ensures)) ∙ sym c.is_nonzero.ensures

-- whether the value is not 0
tells-After-whole_at-then-is_nonzero : (c : goal.After-whole_at-then-is_nonzero) → let a = c.args in whole_nonzero a.values.now a.p ≡ c.is_nonzero.result
tells-After-whole_at-then-is_nonzero c =
    let v = c.whole_at in
    ap not_zero (sym (to_z-of_z w64 v.result (record { sfits = v.type_inv }) ∙ v.ensures)) ∙ sym c.is_nonzero.ensures

-- whether the value is not 0
tells-After-whole_at-then-is_nonzero-2 : (c : goal.After-whole_at-then-is_nonzero-2) → let a = c.args in whole_nonzero a.values.now a.p ≡ c.is_nonzero.result
tells-After-whole_at-then-is_nonzero-2 c =
    let v = c.whole_at in
    ap not_zero (sym (to_z-of_z w64 v.result (record { sfits = v.type_inv }) ∙ v.ensures)) ∙ sym c.is_nonzero.ensures

-- whether the value is not 0
tells-Else-is_nonzero : (c : goal.Else-is_nonzero) → let a = c.args in whole_nonzero a.values.now a.p ≡ c.is_nonzero.result
tells-Else-is_nonzero c =
    let v = c.whole_at in
    ap not_zero (sym (to_z-of_z w64 v.result (record { sfits = v.type_inv }) ∙ v.ensures)) ∙ sym c.is_nonzero.ensures

kept-After-at : (c : goal.After-at) → let a = c.args in whole_nonzero a.values.now a.p ≡ true
kept-After-at c = tells-After-at c ∙ c.if-is_nonzero.true

kept-After-whole_at-then-is_nonzero : (c : goal.After-whole_at-then-is_nonzero) → let a = c.args in whole_nonzero a.values.now a.p ≡ true
kept-After-whole_at-then-is_nonzero c = tells-After-whole_at-then-is_nonzero c ∙ c.if-is_nonzero.true

kept-After-whole_at-then-is_nonzero-2 : (c : goal.After-whole_at-then-is_nonzero-2) → let a = c.args in whole_nonzero a.values.now a.p ≡ true
kept-After-whole_at-then-is_nonzero-2 c = tells-After-whole_at-then-is_nonzero-2 c ∙ c.if-is_nonzero.true

-- the word is there, and its position
word-After-at : (c : goal.After-at) →
    let a = c.args in
    (a.base + c.at.result < length a.scratch.now) × (get_or a.scratch.now (a.base + c.at.result) 0 < length a.work.now)
word-After-at c =
    rw c.at.ensures (c.requires.words (kept-After-at c))

-- the word is there, and its position
word-After-whole_at-then-is_nonzero : (c : goal.After-whole_at-then-is_nonzero) →
    let a = c.args in
    (a.base + c.at.result < length a.scratch.now) × (get_or a.scratch.now (a.base + c.at.result) 0 < length a.work.now)
word-After-whole_at-then-is_nonzero c =
    rw c.at.ensures (c.requires.words (kept-After-whole_at-then-is_nonzero c))

value-is-After-whole_at-then-is_nonzero-2 : (c : goal.After-whole_at-then-is_nonzero-2) →
    let a = c.args in
    to_z w64 (of_z w64 c.whole_at-then-is_nonzero.result) ≡ whole_value a.values.now a.p
value-is-After-whole_at-then-is_nonzero-2 c = to_z-of_z w64 c.whole_at-then-is_nonzero.result (record { sfits = c.whole_at-then-is_nonzero.type_inv }) ∙ c.whole_at-then-is_nonzero.ensures

value-is-After-plus_product : (c : goal.After-plus_product) →
    let a = c.args in
    to_z w64 (of_z w64 c.whole_at-then-is_nonzero.result) ≡ whole_value a.values.now a.p
value-is-After-plus_product c = to_z-of_z w64 c.whole_at-then-is_nonzero.result (record { sfits = c.whole_at-then-is_nonzero.type_inv }) ∙ c.whole_at-then-is_nonzero.ensures

entry_is-After-whole_at-then-is_nonzero-2 : (c : goal.After-whole_at-then-is_nonzero-2) →
    let a = c.args in
    to_z w64 (of_z w64 c.whole_at-then-is_nonzero-2.result) ≡ get_or a.work.now (get_or a.scratch.now (a.base + row a.rows.now a.p) 0) (pos 0)
entry_is-After-whole_at-then-is_nonzero-2 c =
    let a = c.args in
    to_z-of_z w64 c.whole_at-then-is_nonzero-2.result (record { sfits = c.whole_at-then-is_nonzero-2.type_inv }) ∙ c.whole_at-then-is_nonzero-2.ensures
    ∙ ap (λ (k : ℕ). get_or a.work.now k (pos 0))
    (c.at-position.ensures ∙ ap (λ (k : ℕ). get_or a.scratch.now (a.base + k) 0) c.at.ensures)

entry_is-After-plus_product : (c : goal.After-plus_product) →
    let a = c.args in
    to_z w64 (of_z w64 c.whole_at-then-is_nonzero-2.result) ≡ get_or a.work.now (get_or a.scratch.now (a.base + row a.rows.now a.p) 0) (pos 0)
entry_is-After-plus_product c =
    let a = c.args in
    to_z-of_z w64 c.whole_at-then-is_nonzero-2.result (record { sfits = c.whole_at-then-is_nonzero-2.type_inv }) ∙ c.whole_at-then-is_nonzero-2.ensures
    ∙ ap (λ (k : ℕ). get_or a.work.now k (pos 0))
    (c.at-position.ensures ∙ ap (λ (k : ℕ). get_or a.scratch.now (a.base + k) 0) c.at.ensures)

product_is-After-whole_at-then-is_nonzero-2 : (c : goal.After-whole_at-then-is_nonzero-2) →
    to_z w64 (of_z w64 c.whole_at-then-is_nonzero.result) *ℤ to_z w64 (of_z w64 c.whole_at-then-is_nonzero-2.result) ≡ product-After-whole_at-then-is_nonzero-2 c
product_is-After-whole_at-then-is_nonzero-2 c = (λ i. value-is-After-whole_at-then-is_nonzero-2 c i *ℤ entry_is-After-whole_at-then-is_nonzero-2 c i)

product_is-After-plus_product : (c : goal.After-plus_product) →
    to_z w64 (of_z w64 c.whole_at-then-is_nonzero.result) *ℤ to_z w64 (of_z w64 c.whole_at-then-is_nonzero-2.result) ≡ product-After-plus_product c
product_is-After-plus_product c = (λ i. value-is-After-plus_product c i *ℤ entry_is-After-plus_product c i)

total_is-After-whole_at-then-is_nonzero-2 : (c : goal.After-whole_at-then-is_nonzero-2) →
    to_z w64 (of_z w64 c.args.total) +ℤ to_z w64 (of_z w64 c.whole_at-then-is_nonzero.result) *ℤ to_z w64 (of_z w64 c.whole_at-then-is_nonzero-2.result) ≡ c.args.total +ℤ product-After-whole_at-then-is_nonzero-2 c
total_is-After-whole_at-then-is_nonzero-2 c =
    (λ i. to_z-of_z w64 c.args.total c.ranges.total i +ℤ product_is-After-whole_at-then-is_nonzero-2 c i)

total_is-After-plus_product : (c : goal.After-plus_product) →
    to_z w64 (of_z w64 c.args.total) +ℤ to_z w64 (of_z w64 c.whole_at-then-is_nonzero.result) *ℤ to_z w64 (of_z w64 c.whole_at-then-is_nonzero-2.result) ≡ c.args.total +ℤ product-After-plus_product c
total_is-After-plus_product c =
    (λ i. to_z-of_z w64 c.args.total c.ranges.total i +ℤ product_is-After-plus_product c i)

pub whole_at-requires : goal.whole_at-requires
whole_at-requires c = c.requires.weighed

pub at-requires : goal.at-requires
at-requires c = c.requires.stored

pub overflow_add-base : goal.overflow_add-base
overflow_add-base c = let l = (word-After-at c).0 in search rules

pub at-position-requires : goal.at-position-requires
at-position-requires c = (word-After-at c).0

pub whole_at-requires-then-is_nonzero : goal.whole_at-requires-then-is_nonzero
whole_at-requires-then-is_nonzero c = c.requires.weighed

pub whole_at-requires-then-is_nonzero-2 : goal.whole_at-requires-then-is_nonzero-2
whole_at-requires-then-is_nonzero-2 c = omega (arith, c.at-position.ensures, (word-After-whole_at-then-is_nonzero c).1)

pub plus_product-requires : goal.plus_product-requires
plus_product-requires c = (subst Small (sym (product_is-After-whole_at-then-is_nonzero-2 c)) (c.requires.product_small (kept-After-whole_at-then-is_nonzero-2 c)), subst Small (sym (total_is-After-whole_at-then-is_nonzero-2 c)) c.requires.sum_small)

pub returns-then-is_nonzero : goal.returns-then-is_nonzero
returns-then-is_nonzero c = to_z-of_z w64 c.plus_product.result (record { sfits = c.plus_product.type_inv }) ∙ c.plus_product.ensures ∙ total_is-After-plus_product c

pub returns : goal.returns
returns c = let a = c.args in
    to_z-of_z w64 a.total c.ranges.total
    ∙ zero_term a.base a.rows.now a.values.now a.scratch.now a.work.now a.p a.total (tells-Else-is_nonzero c ∙ c.if-is_nonzero.false)
