use Prim.Native.Nat.{max, min}
use mathlib.Core.Path.{ap, sym, ◌∙◌}
use lib.ListN.{length}
use lib.Ieee.{nan}
use Rattle.result.specs.Lookup.{value_at}
use Rattle.result.proofs.Laws.{entry_place_inside, lookup_place_lem}
use Rattle.lookup.proofs.get_counted.Goals as goal

pub value_at-requires : goal.value_at-requires
value_at-requires c = let a = c.args in
    record {
      below = λ p q.
          entry_place_inside a.starts.now a.rows.now (length a.values.now) (max a.row a.col) (min a.row a.col) p (sym c.pair_place-found.ensures.place_value ∙ q);
    }

pub returns : goal.returns
returns c = let a = c.args in record {
  result_value = c.value_at.ensures nan ∙ ap (value_at nan a.values.now) c.pair_place-found.ensures.place_value
      ∙ sym (lookup_place_lem nan a.starts.now a.rows.now a.values.now a.row a.col);
  looks_value = c.pair_place-found.ensures.looks_value;
}
