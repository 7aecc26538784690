use Prim.Native.Nat.{max, min}
use mathlib.Core.Path.{ap, sym, ◌∙◌}
use lib.ListN.{length}
use mir.Syntax.{w64}
use mir.ValLaws.{to_z-of_z}
use Rattle.result.proofs.Halving.{place_within_inside}
use Rattle.whole_pairs.proofs.Entry.{entry_found, entry_none}
use Rattle.refusal.specs.Refusal.{reply_of}
use Rattle.whole_pairs.proofs.entry_or_zero.Goals as goal

pub whole_at-requires : goal.whole_at-requires
whole_at-requires c = let a = c.args in
    place_within_inside a.starts.now a.rows.now (length a.values.now) (max a.row a.col) (min a.row a.col) c.in-Ok.p
    (sym c.pair_place_within.ensures ∙ ap reply_of c.in-Ok.is)

pub returns-in-Ok : goal.returns-in-Ok
returns-in-Ok c = let a = c.args in
    to_z-of_z w64 c.whole_at.result (record { sfits = c.whole_at.type_inv }) ∙ c.whole_at.ensures
    ∙ sym (entry_found a.starts.now a.rows.now a.values.now c.requires a.row a.col c.in-Ok.p (sym c.pair_place_within.ensures ∙ ap reply_of c.in-Ok.is))

pub returns-in-Err : goal.returns-in-Err
returns-in-Err c = let a = c.args in
    sym (entry_none a.starts.now a.rows.now a.values.now c.requires a.row a.col _ (sym c.pair_place_within.ensures ∙ ap reply_of c.in-Err.is))
