use native.Mathlib.Omega.{arith}
use Prim.Native.Nat.{◌<◌, ◌-◌}
use mathlib.Core.Path.{ap, sym, ◌∙◌}
use lib.ListN.{length}
use Rattle.refusal.specs.Refusal.{reply_of}
use Rattle.result.proofs.Laws.{entry_place_none, entry_place-outside, entry_place_broken, entry_place_row, entry_place_column, column_faults-sound, column_rows_lem}
use Rattle.result.proofs.Counted.{entry_looks_none, entry_looks-outside, entry_looks_broken, entry_looks_row, entry_looks_searched}
use Rattle.column_search.proofs.pair_place.ordered_place.Goals as goal

pub returns-then-starts-eq0 : goal.returns-then-starts-eq0
returns-then-starts-eq0 c = let h = c.if-starts-eq0.true in
    record { place_value = c.unsearched.ensures.0 ∙ sym (entry_place_none _ _ _ _ _ h); looks_value = c.unsearched.ensures.1 ∙ sym (entry_looks_none _ _ _ _ _ h) }

pub returns-then-n-c : goal.returns-then-n-c
returns-then-n-c c =
    let m : 0 < length c.args.starts.now = omega arith in
    record { place_value = c.unsearched-then-n-c.ensures.0 ∙ sym (entry_place-outside _ _ _ _ _ m c.if-n-c.true); looks_value = c.unsearched-then-n-c.ensures.1 ∙ sym (entry_looks-outside _ _ _ _ _ m c.if-n-c.true) }

pub returns-then-n-r : goal.returns-then-n-r
returns-then-n-r c =
    let m : 0 < length c.args.starts.now = omega arith in
    let a = c.args in
    let passed = sym c.check_column.ensures ∙ ap reply_of c.in-Ok.is in
    let inside : a.c < length a.starts.now - 1 = omega (arith, c.if-n-c.false) in
    record { place_value = c.unsearched-then-n-r.ensures.0 ∙ sym (entry_place_row _ _ _ _ _ m inside passed c.if-n-r.true); looks_value = c.unsearched-then-n-r.ensures.1 ∙ sym (entry_looks_row _ _ _ _ _ m inside passed c.if-n-r.true) }

pub find_in_column-found-requires : goal.find_in_column-found-requires
find_in_column-found-requires c = record { c_in_bounds = omega (arith, c.if-n-c.false); column = column_rows_lem (column_faults-sound _ _ _ _ (sym c.check_column.ensures ∙ ap reply_of c.in-Ok.is)) }

pub returns-in-Err : goal.returns-in-Err
returns-in-Err c =
    let m : 0 < length c.args.starts.now = omega arith in
    let a = c.args in
    let inside : a.c < length a.starts.now - 1 = omega (arith, c.if-n-c.false) in
    let broken = sym c.check_column.ensures ∙ ap reply_of c.in-Err.is in record { place_value = c.unsearched-in-Err.ensures.0 ∙ sym (entry_place_broken _ _ _ _ _ m inside _ broken); looks_value = c.unsearched-in-Err.ensures.1 ∙ sym (entry_looks_broken _ _ _ _ _ m inside _ broken) }

pub returns-else-n-r : goal.returns-else-n-r
returns-else-n-r c =
    let m : 0 < length c.args.starts.now = omega arith in
    let a = c.args in
    let passed = sym c.check_column.ensures ∙ ap reply_of c.in-Ok.is in
    let inside : a.c < length a.starts.now - 1 = omega (arith, c.if-n-c.false) in
    let below : a.r < length a.starts.now - 1 = omega (arith, c.if-n-r.false) in record { place_value = c.of_row.ensures ∙ c.find_in_column-found.ensures.place_value ∙ sym (entry_place_column _ _ _ _ _ m inside passed below); looks_value = c.find_in_column-found.ensures.looks_value ∙ sym (entry_looks_searched _ _ _ _ _ m inside passed below) }
