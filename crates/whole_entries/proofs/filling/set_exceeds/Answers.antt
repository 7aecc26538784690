use Prim.Native.Nat.{ℕ}
use native.Mathlib.Omega.{arith}
use mathlib.Core.Path.{◌≡◌, sym, ◌∙◌}
use mathlib.Core.Bool.{false}
use lib.ListN.{length-replicate}
use Rattle.lists.specs.Test.{any}
use Rattle.refusal.specs.Bounds.{max_dimension}
use Rattle.entries.specs.WholeTable.{kept_exceeds}
use Rattle.whole_entries.proofs.SetLaws.{set_kept, set_firsts, set_count, set_route, set_done}
use Rattle.whole_entries.proofs.filling.set_exceeds.Goals as goal

-- no kept entry exceeds
none-After-whole_selected_inverse-arg-1 : (e : goal.After-whole_selected_inverse-arg-1) → let a = e.args in any (kept_exceeds a.starts.now a.rows.now a.values.now) a.n ≡ false
none-After-whole_selected_inverse-arg-1 e = sym e.kept_beyond.ensures ∙ e.if-kept_beyond.false

-- no kept entry exceeds
none-After-work-1 : (e : goal.After-work-1) → let a = e.args in any (kept_exceeds a.starts.now a.rows.now a.values.now) a.n ≡ false
none-After-work-1 e = sym e.kept_beyond.ensures ∙ e.if-kept_beyond.false

pub returns-then-kept_beyond : goal.returns-then-kept_beyond
returns-then-kept_beyond c = set_kept c.requires (sym c.kept_beyond.ensures ∙ c.if-kept_beyond.true)

pub lay_firsts-count-requires : goal.lay_firsts-count-requires
lay_firsts-count-requires c = let room = length-replicate {A = ℕ} max_dimension 0 in
    (set_firsts c.requires (omega (arith, c.requires.small, room)) (omega (arith, c.requires.small, room)), c.requires.reached_long, c.requires.reached_all)

pub whole_selected_inverse-requires : goal.whole_selected_inverse-requires
whole_selected_inverse-requires c = let room = length-replicate {A = ℕ} max_dimension 0 in record {
  whole_route_input = (
    set_route c.requires c.lay_firsts-count.ensures (omega (arith, c.requires.small, c.lay_firsts-count.auto.firsts, room)) (none-After-whole_selected_inverse-arg-1 c),
    omega (arith, c.requires.small, c.lay_firsts-count.auto.listed, room),
  );
  count_value = set_count c.requires c.lay_firsts-count.ensures;
}

pub returns : goal.returns
returns c = set_done c.requires c.lay_firsts-count.ensures (none-After-work-1 c) c.whole_selected_inverse.ensures
