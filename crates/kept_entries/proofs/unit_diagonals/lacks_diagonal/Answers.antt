use Prim.Native.Nat.{ℕ}
use native.Mathlib.Omega.{arith}
use mathlib.Core.Bool.{Bool, not, ◌||◌, or-true, or-false}
use mathlib.Core.Path.{◌≡◌, sym, ap, ◌∙◌}
use Rattle.std.specs.Prelude.{Some}
use Rattle.lists.specs.Test.{any, any_none, any_next, any_more, any_less, any-hit}
use Rattle.columns.specs.Diagonal.{no_diagonal}
use Rattle.columns.specs.UnitDiagonals.{other_diagonal}
use Rattle.columns.proofs.Factor.{factor_column}
use Rattle.kept_entries.proofs.unit_diagonals.lacks_diagonal.Goals.{in-None, in-Some-true}
use Rattle.kept_entries.proofs.unit_diagonals.lacks_diagonal.Goals as goal

pub loop-c-init : goal.loop-c-init
loop-c-init g c = record { units = any_none _; lacking = sym (any_none _) }

pub is_unit-requires : goal.is_unit-requires
is_unit-requires g c = rw (c.at.ensures, c.at-in-loop-c.ensures) (factor_column c.requires c.loop-c.c (omega arith))

pub returns-in-Some-false : goal.returns-in-Some-false
returns-in-Some-false g c =
    let a = c.args in
    let test : ℕ → Bool = other_diagonal a.rows.now (g.T.StoredValue.kept a.values.now) (g.T.StoredValue.one a.values.now) a.starts.now in
    let d = rw (c.at.ensures, c.at-in-loop-c.ensures) at c.in-Some-false.ensures in
    rw (any-hit test a.n c.loop-c.c (omega arith) (d.other ∙ ap not c.in-Some-false.field-0-test))

pub loop-c-preserved : goal.loop-c-preserved
loop-c-preserved g c =
    let a = c.args in
    let l = c.loop-c in
    let t : ℕ → Bool = no_diagonal a.starts.now a.rows.now (g.T.StoredValue.kept a.values.now) in
    let n = any_next t l.c in
    elim c.match-is_unit.branch [
      | in-None w ↦
          let d = rw (c.at.ensures, c.at-in-loop-c.ensures) at w.in-None.ensures in
          record {
            units = any_more _ _ l.invariant.units d.other;
            lacking = w.missing-is ∙ sym (n ∙ ap (λ (b : Bool). any t l.c || b) (ap not d.kept) ∙ or-true (any t l.c));
          }
      | in-Some-true w ↦
          let d = rw (c.at.ensures, c.at-in-loop-c.ensures) at w.in-Some-true.ensures in
          record {
            units = any_more _ _ l.invariant.units (d.other ∙ ap not w.in-Some-true.field-0-test);
            lacking = w.missing-is ∙ l.invariant.lacking ∙ sym (n ∙ ap (λ (b : Bool). any t l.c || b) (ap not d.kept) ∙ or-false (any t l.c));
          }
    ]

pub returns : goal.returns
returns g c =
    let a = c.args in
    let l = c.loop-c in
    let e : l.c ≡ a.n = omega arith in
    rw (any_less _ l.c a.n l.invariant.units (omega arith))
    (ap Some (l.invariant.lacking ∙ ap (any (no_diagonal a.starts.now a.rows.now (g.T.StoredValue.kept a.values.now))) e))
