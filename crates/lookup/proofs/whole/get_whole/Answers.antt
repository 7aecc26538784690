use Prim.Native.Nat.{max, min}
use mathlib.Core.Path.{ap, sym, ◌∙◌}
use lib.ListN.{length}
use lib.IntN.{pos}
use Rattle.result.specs.Lookup.{value_at}
use Rattle.result.proofs.Laws.{entry_place_inside, lookup_place_lem}
use Rattle.lookup.proofs.whole.get_whole.Goals as goal

pub value_at-requires : goal.value_at-requires
value_at-requires c = let a = c.args in
    record {
      below = λ p q.
          entry_place_inside a.starts.now a.rows.now (length a.values.now) (max a.row a.col) (min a.row a.col) p (sym c.pair_place-found.ensures.place_value ∙ q);
    }

pub returns : goal.returns
returns c = let a = c.args in
    c.value_at.ensures (pos 0) ∙ ap (value_at (pos 0) a.values.now) c.pair_place-found.ensures.place_value
    ∙ sym (lookup_place_lem (pos 0) a.starts.now a.rows.now a.values.now a.row a.col)
