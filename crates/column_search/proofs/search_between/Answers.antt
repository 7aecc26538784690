use Prim.Native.Nat.{◌-◌, ◌*◌, ◌≤◌}
use native.Mathlib.Omega.{arith}
use mathlib.Core.Path.{◌≡◌, ◌∙◌}
use lib.ListN.{take, drop, length-drop, length}
use lib.Seq.{length-take-le}
use Rattle.result.proofs.Place.{ascends_part, sought-part}
use Rattle.result.specs.Looks.{looks}
use Rattle.result.proofs.Looks.{looks_bounded}
use Rattle.column_search.proofs.search_between.Goals as goal

pub search-requires : goal.search-requires
search-requires c = let a = c.args in
    let C = c.requires in
    let n : length (take (a.e - a.s) (drop a.s a.rows.now)) ≡ a.e - a.s = length-take-le _ _ (simp length-drop (omega arith)) in
    let l : looks (take (a.e - a.s) (drop a.s a.rows.now)) a.r ≤ 2 * 64 = looks_bounded 64 (take (a.e - a.s) (drop a.s a.rows.now)) a.r (omega (arith, n)) in
    record { ascending = ascends_part a.rows.now a.s a.e C.ordered C.stored C.ascends; part_bound = omega arith; r_bound = omega (arith, l) }

pub returns : goal.returns
returns c = let a = c.args in
    let C = c.requires in
    record { place_value = c.search.ensures.place_value ∙ sought-part a.rows.now a.s a.e C.ordered C.stored a.r C.ascends; looks_value = omega (arith, c.search.ensures.looks_value) }
