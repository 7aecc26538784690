use Prim.Native.Nat.{ℕ}
use native.Mathlib.Omega.{arith}
use mathlib.Core.Path.{◌≡◌, sym, ap, ap₂, subst, ◌∙◌}
use mathlib.Core.Bool.{Bool, true}
use lib.Dec.{ltb}
use lib.ListN.{get_or}
use lib.IntN.{ℤ, pos}
use mir.Syntax.{w64}
use mir.Val.{SFits, to_z, of_z}
use mir.ValLaws.{to_z-of_z}
use borrow.Author.Tests.{lt-ltb}
use Rattle.lists.specs.Test.{and_both}
use Rattle.columns.specs.Columns.{row}
use Rattle.columns.specs.Kept.{kept_below}
use Rattle.pairs.specs.Positions.{position_at}
use Rattle.exact.specs.Multiple.{Small}
use Rattle.exact.specs.Checked.{plus_product}
use Rattle.columns.specs.WholeFactor.{not_zero, whole_value, whole_nonzero}
use Rattle.whole_route.specs.Number.{number_reply}
use Rattle.whole_route.specs.Sums.{whole_inverse_at}
use Rattle.whole_route.proofs.SumLaws.{entry_above, entry_zero, entry_kept}
use Rattle.whole_route.proofs.sums.add_entry.Goals as goal
use Rattle.whole_route.proofs.sums.add_entry.Goals.{Start, Then-is_nonzero, After-whole_at-then-is_nonzero, After-whole_at-then-is_nonzero-2}

abbrev inverse_row : Start → ℕ → ℤ
inverse_row c = whole_inverse_at c.args.n c.args.scratch.now c.args.inverse.now c.args.i

-- whether the entry is not 0
tells : {v w : ℤ} {b : Bool} → SFits w64 v → v ≡ w → b ≡ not_zero (to_z w64 (of_z w64 v)) → not_zero w ≡ b
tells f e q = ap not_zero (sym (to_z-of_z w64 _ f ∙ e)) ∙ sym q

-- it is kept below the diagonal
kept : (c : Then-is_nonzero) → kept_below c.args.rows.now (whole_nonzero c.args.values.now) c.args.j c.args.p ≡ true
kept c =
    and_both (ltb c.args.j (row c.args.rows.now c.args.p)) (whole_nonzero c.args.values.now c.args.p) (lt-ltb _ _ (omega (arith, c.if-k-j.false, c.at-k.ensures)))
    (tells (record { sfits = c.whole_at.type_inv }) c.whole_at.ensures c.is_nonzero.ensures ∙ c.if-is_nonzero.true)

factor_is : (c : After-whole_at-then-is_nonzero) → to_z w64 (of_z w64 c.whole_at-then-is_nonzero.result) ≡ whole_value c.args.values.now c.args.p
factor_is c = to_z-of_z w64 c.whole_at-then-is_nonzero.result (record { sfits = c.whole_at-then-is_nonzero.type_inv }) ∙ c.whole_at-then-is_nonzero.ensures

inverse_is : (c : After-whole_at-then-is_nonzero-2) →
    to_z w64 (of_z w64 c.whole_at-then-is_nonzero-2.result)
    ≡ whole_inverse_at c.args.n c.args.scratch.now c.args.inverse.now c.args.i (row c.args.rows.now c.args.p)
inverse_is c =
    to_z-of_z w64 c.whole_at-then-is_nonzero-2.result (record { sfits = c.whole_at-then-is_nonzero-2.type_inv }) ∙ c.whole_at-then-is_nonzero-2.ensures
    ∙ ap (λ (q : ℕ). get_or c.args.inverse.now q (pos 0)) c.pair_position-position.ensures
    ∙ ap (whole_inverse_at c.args.n c.args.scratch.now c.args.inverse.now c.args.i) c.at-k.ensures

pub returns-then-k-j : goal.returns-then-k-j
returns-then-k-j c = entry_above c.args.rows.now c.args.values.now c.args.j (inverse_row (goal.at.returns-then-k-j c).Start) c.args.p (number_reply c.args.sum)
    (omega (arith, c.at-k.ensures, c.if-k-j.true))

pub whole_at-requires : goal.whole_at-requires
whole_at-requires c = c.requires.term_input.weighed

pub pair_position-position-requires : goal.pair_position-position-requires
pair_position-position-requires c = let P = c.requires.positions_value in
    let T = c.requires.term_input in
    (P.0, P.1, record { small = T.small; left = T.left; right = omega (arith, c.at-k.ensures, T.inside); room = T.room })

pub whole_at-requires-then-is_nonzero : goal.whole_at-requires-then-is_nonzero
whole_at-requires-then-is_nonzero c = c.requires.term_input.weighed

pub whole_at-requires-then-is_nonzero-2 : goal.whole_at-requires-then-is_nonzero-2
whole_at-requires-then-is_nonzero-2 c = let k = c.requires.term_input.known (kept (goal.at.whole_at-requires-then-is_nonzero-2 c).Then-is_nonzero) in
    omega (arith, k, c.pair_position-position.ensures, ap (position_at c.args.n c.args.scratch.now c.args.i) c.at-k.ensures)

pub add_product-requires : goal.add_product-requires
add_product-requires c = let a = goal.at.add_product-requires c in
    let T = c.requires.term_input in
    let k = kept a.Then-is_nonzero in (
      c.requires.positions_value.2,
      subst Small (sym (factor_is a.After-whole_at-then-is_nonzero)) (T.factor_small k),
      subst Small (sym (inverse_is a.After-whole_at-then-is_nonzero-2)) (T.inverse_small k),
    )

pub returns-then-is_nonzero : goal.returns-then-is_nonzero
returns-then-is_nonzero c = let a = goal.at.returns-then-is_nonzero c in
    c.add_product.ensures ∙ ap₂ (plus_product (number_reply c.args.sum)) (factor_is a.After-whole_at-then-is_nonzero) (inverse_is a.After-whole_at-then-is_nonzero-2)
    ∙ entry_kept c.args.rows.now c.args.values.now c.args.j (inverse_row a.Start) c.args.p (number_reply c.args.sum) (kept a.Then-is_nonzero)

pub returns : goal.returns
returns c = let a = goal.at.returns c in
    entry_zero c.args.rows.now c.args.values.now c.args.j (inverse_row a.Start) c.args.p (number_reply c.args.sum) (omega (arith, c.if-k-j.false, c.at-k.ensures))
    (tells (record { sfits = c.whole_at.type_inv }) c.whole_at.ensures c.is_nonzero.ensures ∙ c.if-is_nonzero.false)
