use native.Mathlib.Omega.{arith}
use Prim.Native.Nat.{ℕ, ◌≤◌, ◌<◌, ◌-◌, ◌+◌, ◌/◌}
use mathlib.Core.Path.{◌≡◌, ap, sym, ◌∙◌}
use mathlib.Core.List.{List}
use Rattle.columns.specs.Columns.{row}
use Rattle.result.specs.Halving.{halving}
use Rattle.result.proofs.Halving.{halving_one, halving_up, halving-down}
use Rattle.column_search.proofs.halving.halve.Invariants.{Left}
use Rattle.column_search.proofs.halving.halve.Goals as goal
use Rattle.column_search.proofs.halving.halve.Goals.{then-at_mid-r, else-at_mid-r}

left_up : (rows : List ℕ) (r s e base there size : ℕ) → Left rows r s e base there size → 1 < size → (b t : ℕ)
    → t ≡ row rows (base + size / 2)
    → t ≤ r
    → b ≡ base + size / 2
    → Left rows r s e b t (size - size / 2)
left_up rows r s e base there size I h b t at_mid l q = (
  omega (arith, I.0, q),
  omega arith,
  omega (arith, I.2, q),
  at_mid ∙ ap (row rows) (sym q),
  ap (λ (k : ℕ). halving rows r k (size - size / 2)) q ∙ sym (halving_up rows r base size h (omega (arith, at_mid, l))) ∙ I.4,
)

left_down : (rows : List ℕ) (r s e base there size : ℕ) → Left rows r s e base there size → 1 < size → (b t m : ℕ)
    → m ≡ row rows (base + size / 2)
    → r < m
    → b ≡ base
    → t ≡ there
    → Left rows r s e b t (size - size / 2)
left_down rows r s e base there size I h b t m at_mid l q u = (
  omega (arith, I.0, q),
  omega arith,
  omega (arith, I.2, q),
  u ∙ I.3 ∙ ap (row rows) (sym q),
  ap (λ (k : ℕ). halving rows r k (size - size / 2)) q ∙ sym (halving-down rows r base size h (omega (arith, at_mid, l))) ∙ I.4,
)

pub loop-size-preserved : goal.loop-size-preserved
loop-size-preserved c =
    let a = c.args in
    let i = c.loop-size in
    elim c.if-at_mid-r.branch [
      | then-at_mid-r w ↦ rw w.there-is
          (left_up a.rows.now a.r a.s a.e i.base i.there i.size i.invariant c.loop-size-test.true _ _ c.at-at_mid.ensures w.if-at_mid-r.true w.base-is)
      | else-at_mid-r w ↦
          left_down a.rows.now a.r a.s a.e i.base i.there i.size i.invariant c.loop-size-test.true _ _ _ c.at-at_mid.ensures w.if-at_mid-r.false w.base-is w.there-is
    ]

pub returns : goal.returns
returns c = let i = c.loop-size in
    let a = c.args in
    record { place_value = sym (halving_one a.rows.now a.r i.base i.size c.loop-size-test.false) ∙ i.invariant.4; there_value = i.invariant.3 }
