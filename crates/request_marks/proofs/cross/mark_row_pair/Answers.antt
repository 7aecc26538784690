use Prim.Native.Nat.{ℕ}
use mathlib.Core.Path.{◌≡◌, sym}
use mathlib.Core.List.{List}
use Rattle.marked_pairs.specs.MarkedPairs.{AlsoMarked}
use Rattle.request_marks.specs.OperatorMarks.{RowInput}
use Rattle.request_marks.specs.CrossRequests.{cross_set}
use Rattle.request_marks.proofs.cross.mark_row_pair.Goals as goal

-- at equal places
same-input : {n : ℕ} {columns : List ℕ} {w : List ℕ} {count s e s' e' : ℕ} → s ≡ s' → e ≡ e' → RowInput n columns s' e' w count → RowInput n columns s e w count
same-input x y R = rw (x, y) R

same-marked : {n : ℕ} (ac bc : List ℕ) {w w' : List ℕ} {count s e t f s' e' t' f' : ℕ} → s ≡ s' → e ≡ e' → t ≡ t' → f ≡ f'
    → AlsoMarked n (cross_set ac bc s e t f) w w' count → AlsoMarked n (cross_set ac bc s' e' t' f') w w' count
same-marked ac bc x y z u M = rw (sym x, sym y, sym z, sym u) M

pub mark_rows-requires : goal.mark_rows-requires
mark_rows-requires c = record { row_input = same-input c.at-s.ensures c.at-e.ensures c.requires.row_input; row_input_2 = same-input c.at-t.ensures c.at-f.ensures c.requires.row_input_2 }

pub returns : goal.returns
returns c = let a = c.args in
    same-marked a.a_columns.now a.b_columns.now c.at-s.ensures c.at-e.ensures c.at-t.ensures c.at-f.ensures c.mark_rows.ensures
