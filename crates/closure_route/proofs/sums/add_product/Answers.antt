use Prim.Native.Nat.{ℕ, ◌<◌}
use native.Mathlib.Omega.{arith}
use mathlib.Core.Path.{◌≡◌, sym, ap, subst, ◌∙◌}
use mathlib.Core.Bool.{true}
use lib.ListN.{length, get_or}
use lib.Ieee.{Float, binary64, nan, add, mul}
use Rattle.columns.specs.Columns.{row, value}
use Rattle.columns.specs.Kept.{nonzero, kept_below}
use Rattle.pair_places.specs.Position.{PairEntryInput}
use Rattle.closure_route.specs.Sums.{inverse_at}
use Rattle.closure_route.proofs.SumLaws.{product_read, with_product_above, with_product_zero, with_product_kept, kept_below_lem}
use Rattle.closure_route.proofs.sums.add_product.Goals as goal

-- the inverse's row i
abbrev inverse-row-Then-k-j : goal.Then-k-j → ℕ → Float
inverse-row-Then-k-j s = inverse_at nan s.args.n s.args.scratch.now s.args.result_values.now s.args.i

-- the inverse's row i
abbrev inverse-row-Then-l : goal.Then-l → ℕ → Float
inverse-row-Then-l s = inverse_at nan s.args.n s.args.scratch.now s.args.result_values.now s.args.i

-- the inverse's row i
abbrev inverse-row-After-pair_position-position : goal.After-pair_position-position → ℕ → Float
inverse-row-After-pair_position-position s = inverse_at nan s.args.n s.args.scratch.now s.args.result_values.now s.args.i

-- the inverse's row i
abbrev inverse-row-After-shared_slice_known-then-l-1 : goal.After-shared_slice_known-then-l-1 → ℕ → Float
inverse-row-After-shared_slice_known-then-l-1 s = inverse_at nan s.args.n s.args.scratch.now s.args.result_values.now s.args.i

-- the inverse's row i
abbrev inverse-row-Else-l : goal.Else-l → ℕ → Float
inverse-row-Else-l s = inverse_at nan s.args.n s.args.scratch.now s.args.result_values.now s.args.i

-- the entry is below the diagonal, and kept
under-Then-l : (c : goal.Then-l) → c.args.j < row c.args.rows.now c.args.p
under-Then-l c = omega (arith, c.if-k-j.false, c.at-k.ensures)

-- the entry is below the diagonal, and kept
under-After-pair_position-position : (c : goal.After-pair_position-position) → c.args.j < row c.args.rows.now c.args.p
under-After-pair_position-position c = omega (arith, c.if-k-j.false, c.at-k.ensures)

-- the entry is below the diagonal, and kept
under-After-shared_slice_known-then-l-1 : (c : goal.After-shared_slice_known-then-l-1) → c.args.j < row c.args.rows.now c.args.p
under-After-shared_slice_known-then-l-1 c = omega (arith, c.if-k-j.false, c.at-k.ensures)

-- the entry is below the diagonal, and kept
under-Else-l : (c : goal.Else-l) → c.args.j < row c.args.rows.now c.args.p
under-Else-l c = omega (arith, c.if-k-j.false, c.at-k.ensures)

kept-Then-l : (c : goal.Then-l) →
    let a = c.args in
    kept_below a.rows.now (nonzero a.values.now) a.j a.p ≡ true
kept-Then-l c =
    kept_below_lem c.args.rows.now c.args.values.now c.args.j c.args.p (inverse-row-Then-l c) c.args.sum (under-Then-l c) c.if-l.true

kept-After-pair_position-position : (c : goal.After-pair_position-position) →
    let a = c.args in
    kept_below a.rows.now (nonzero a.values.now) a.j a.p ≡ true
kept-After-pair_position-position c =
    kept_below_lem c.args.rows.now c.args.values.now c.args.j c.args.p (inverse-row-After-pair_position-position c) c.args.sum (under-After-pair_position-position c) c.if-l.true

kept-After-shared_slice_known-then-l-1 : (c : goal.After-shared_slice_known-then-l-1) →
    let a = c.args in
    kept_below a.rows.now (nonzero a.values.now) a.j a.p ≡ true
kept-After-shared_slice_known-then-l-1 c =
    kept_below_lem c.args.rows.now c.args.values.now c.args.j c.args.p (inverse-row-After-shared_slice_known-then-l-1 c) c.args.sum (under-After-shared_slice_known-then-l-1 c) c.if-l.true

-- what reading the inverse's entry asks
reads-Then-l : (c : goal.Then-l) →
    let a = c.args in
    PairEntryInput a.n a.i c.at-k.result a.scratch.now (length a.result_values.now)
reads-Then-l c =
    subst (λ (k : ℕ). PairEntryInput c.args.n c.args.i k c.args.scratch.now (length c.args.result_values.now)) (sym c.at-k.ensures)
    (product_read c.requires.add_product_input (kept-Then-l c))

-- what reading the inverse's entry asks
reads-After-pair_position-position : (c : goal.After-pair_position-position) →
    let a = c.args in
    PairEntryInput a.n a.i c.at-k.result a.scratch.now (length a.result_values.now)
reads-After-pair_position-position c =
    subst (λ (k : ℕ). PairEntryInput c.args.n c.args.i k c.args.scratch.now (length c.args.result_values.now)) (sym c.at-k.ensures)
    (product_read c.requires.add_product_input (kept-After-pair_position-position c))

-- what reading the inverse's entry asks
reads-After-shared_slice_known-then-l-1 : (c : goal.After-shared_slice_known-then-l-1) →
    let a = c.args in
    PairEntryInput a.n a.i c.at-k.result a.scratch.now (length a.result_values.now)
reads-After-shared_slice_known-then-l-1 c =
    subst (λ (k : ℕ). PairEntryInput c.args.n c.args.i k c.args.scratch.now (length c.args.result_values.now)) (sym c.at-k.ensures)
    (product_read c.requires.add_product_input (kept-After-shared_slice_known-then-l-1 c))

-- its position is within the list
within-After-pair_position-position : (c : goal.After-pair_position-position) → c.pair_position-position.result < length c.args.result_values.now
within-After-pair_position-position c = omega (arith, c.pair_position-position.ensures, (reads-After-pair_position-position c).known)

-- its position is within the list
within-After-shared_slice_known-then-l-1 : (c : goal.After-shared_slice_known-then-l-1) → c.pair_position-position.result < length c.args.result_values.now
within-After-shared_slice_known-then-l-1 c = omega (arith, c.pair_position-position.ensures, (reads-After-shared_slice_known-then-l-1 c).known)

pub returns-then-k-j : goal.returns-then-k-j
returns-then-k-j c = with_product_above c.args.rows.now c.args.values.now c.args.j c.args.p (inverse-row-Then-k-j c) c.args.sum
    (omega (arith, c.at-k.ensures, c.if-k-j.true))

pub pair_position-position-requires : goal.pair_position-position-requires
pair_position-position-requires c = (c.requires.positions_value.0, c.requires.positions_value.1, (reads-Then-l c).pair)

pub offset_bounds-result_values-position : goal.offset_bounds-result_values-position
offset_bounds-result_values-position c = omega (arith, within-After-pair_position-position c)

pub bounds-result_values-position : goal.bounds-result_values-position
bounds-result_values-position c = within-After-shared_slice_known-then-l-1 c

pub returns-then-l : goal.returns-then-l
returns-then-l c = ap (λ (x : Float). add binary64 c.args.sum (mul binary64 (value c.args.values.now c.args.p) x))
    (ap (λ (q : ℕ). get_or c.args.result_values.now q nan) c.pair_position-position.ensures ∙ ap (inverse-row-After-shared_slice_known-then-l-1 c) c.at-k.ensures)
    ∙ with_product_kept c.args.rows.now c.args.values.now c.args.j c.args.p (inverse-row-After-shared_slice_known-then-l-1 c) c.args.sum (kept-After-shared_slice_known-then-l-1 c)

pub returns : goal.returns
returns c = with_product_zero c.args.rows.now c.args.values.now c.args.j c.args.p (inverse-row-Else-l c) c.args.sum (under-Else-l c) c.if-l.false
