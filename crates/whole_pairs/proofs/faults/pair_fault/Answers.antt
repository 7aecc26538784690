use Prim.Native.Nat.{max, min}
use mathlib.Core.Path.{ap, sym, ◌∙◌}
use lib.ListN.{length}
use Rattle.result.proofs.Halving.{place_within_inside}
use Rattle.whole_pairs.proofs.Entry.{fault_found, fault_none}
use Rattle.refusal.specs.Refusal.{reply_of}
use Rattle.whole_pairs.proofs.faults.pair_fault.Goals as goal

pub size_fault-requires : goal.size_fault-requires
size_fault-requires c = let a = c.args in
    place_within_inside a.starts.now a.rows.now (length a.values.now) (max a.row a.col) (min a.row a.col) c.in-Ok.p
    (sym c.pair_place_within.ensures ∙ ap reply_of c.in-Ok.is)

pub returns-in-Ok : goal.returns-in-Ok
returns-in-Ok c = let a = c.args in
    c.size_fault.ensures
    ∙ fault_found a.starts.now a.rows.now a.values.now c.requires a.row a.col a.most c.in-Ok.p (sym c.pair_place_within.ensures ∙ ap reply_of c.in-Ok.is)

pub returns-in-Err : goal.returns-in-Err
returns-in-Err c = let a = c.args in
    fault_none a.starts.now a.rows.now a.values.now c.requires a.row a.col a.most _ (sym c.pair_place_within.ensures ∙ ap reply_of c.in-Err.is)
