use Rattle.closure.proofs.KeptBy.{closure_rows}
use Prim.Native.Nat.{ℕ}
use native.Mathlib.Omega.{arith}
use lib.ListN.{length-replicate}
use Rattle.refusal.specs.Bounds.{max_dimension}
use Rattle.pairs.proofs.Scratch.{scratch_words_room}
use Rattle.closure.specs.Covered.{unlisted}
use Rattle.whole_selection.specs.Call.{WholeCall, WholeLent, whole_call, whole_lent}
use Rattle.whole_entries.proofs.ReplyLaws.{fill_closure, fill_kept, fill_set, fill_exceeds, fill_done, fill_large}
use Rattle.whole_entries.proofs.filling.fill_requested.Goals as goal

-- the call and the lists that it is lent
abbrev handed-After-diagnose-arg-1 : goal.After-diagnose-arg-1 → WholeCall
handed-After-diagnose-arg-1 s =
    let a = s.args in
    whole_call a.n a.starts.now a.rows.now a.values.now a.dimension a.request_rows.now a.request_columns.now a.limit

-- the call and the lists that it is lent
abbrev handed-After-fill_complete-arg-in-Complete-4-1 : goal.After-fill_complete-arg-in-Complete-4-1 → WholeCall
handed-After-fill_complete-arg-in-Complete-4-1 s =
    let a = s.args in
    whole_call a.n a.starts.now a.rows.now a.values.now a.dimension a.request_rows.now a.request_columns.now a.limit

-- the call and the lists that it is lent
abbrev handed-Then-fill_complete : goal.Then-fill_complete → WholeCall
handed-Then-fill_complete s =
    let a = s.args in
    whole_call a.n a.starts.now a.rows.now a.values.now a.dimension a.request_rows.now a.request_columns.now a.limit

-- the call and the lists that it is lent
abbrev handed-Else-fill_complete : goal.Else-fill_complete → WholeCall
handed-Else-fill_complete s =
    let a = s.args in
    whole_call a.n a.starts.now a.rows.now a.values.now a.dimension a.request_rows.now a.request_columns.now a.limit

-- the call and the lists that it is lent
abbrev handed-In-ClosureTooLarge : goal.In-ClosureTooLarge → WholeCall
handed-In-ClosureTooLarge s =
    let a = s.args in
    whole_call a.n a.starts.now a.rows.now a.values.now a.dimension a.request_rows.now a.request_columns.now a.limit

abbrev lent-After-diagnose-arg-1 : goal.After-diagnose-arg-1 → WholeLent
lent-After-diagnose-arg-1 s = let a = s.args in whole_lent a.result_starts.now a.result_rows.now a.result_values.now a.scratch.now a.work.now

abbrev lent-After-fill_complete-arg-in-Complete-4-1 : goal.After-fill_complete-arg-in-Complete-4-1 → WholeLent
lent-After-fill_complete-arg-in-Complete-4-1 s = let a = s.args in whole_lent a.result_starts.now a.result_rows.now a.result_values.now a.scratch.now a.work.now

abbrev lent-Then-fill_complete : goal.Then-fill_complete → WholeLent
lent-Then-fill_complete s = let a = s.args in whole_lent a.result_starts.now a.result_rows.now a.result_values.now a.scratch.now a.work.now

abbrev lent-Else-fill_complete : goal.Else-fill_complete → WholeLent
lent-Else-fill_complete s = let a = s.args in whole_lent a.result_starts.now a.result_rows.now a.result_values.now a.scratch.now a.work.now

abbrev lent-In-ClosureTooLarge : goal.In-ClosureTooLarge → WholeLent
lent-In-ClosureTooLarge s = let a = s.args in whole_lent a.result_starts.now a.result_rows.now a.result_values.now a.scratch.now a.work.now

pub mark_requests-requested_pairs-requires : goal.mark_requests-requested_pairs-requires
mark_requests-requested_pairs-requires c = record { small = c.requires.small; requests = c.requires.asked; room = scratch_words_room c.args.n c.requires.room.scratch_room }

pub diagnose-diagnosis-requires : goal.diagnose-diagnosis-requires
diagnose-diagnosis-requires c = record { kept_pairs_le_max_count = fill_kept (handed-After-diagnose-arg-1 c) (lent-After-diagnose-arg-1 c) c.requires c.mark_requests-requested_pairs.ensures c.factor_pairs-kept_pairs.ensures; closure_input = closure_rows (fill_closure (handed-After-diagnose-arg-1 c) (lent-After-diagnose-arg-1 c) c.requires c.mark_requests-requested_pairs.ensures (unlisted c.requires.small)); values_lent = omega (arith, c.requires.factor.valued) }

pub fill_complete-requires : goal.fill_complete-requires
fill_complete-requires c = fill_set (handed-After-fill_complete-arg-in-Complete-4-1 c) (lent-After-fill_complete-arg-in-Complete-4-1 c) c.requires c.mark_requests-requested_pairs.ensures c.factor_pairs-kept_pairs.ensures c.diagnose-diagnosis.ensures
    c.in-Complete.is (omega (arith, c.requires.small, c.diagnose-diagnosis.auto.stops, length-replicate {A = ℕ} max_dimension 0))

pub returns-then-fill_complete : goal.returns-then-fill_complete
returns-then-fill_complete c = fill_exceeds (handed-Then-fill_complete c) (lent-Then-fill_complete c) c.requires c.mark_requests-requested_pairs.ensures c.factor_pairs-kept_pairs.ensures c.diagnose-diagnosis.ensures
    c.in-Complete.is c.fill_complete.ensures c.if-fill_complete.true

pub returns-else-fill_complete : goal.returns-else-fill_complete
returns-else-fill_complete c = fill_done (handed-Else-fill_complete c) (lent-Else-fill_complete c) c.requires c.mark_requests-requested_pairs.ensures c.factor_pairs-kept_pairs.ensures c.diagnose-diagnosis.ensures
    c.in-Complete.is c.fill_complete.ensures c.if-fill_complete.false

pub returns-in-ClosureTooLarge : goal.returns-in-ClosureTooLarge
returns-in-ClosureTooLarge c = fill_large (handed-In-ClosureTooLarge c) (lent-In-ClosureTooLarge c) c.requires c.mark_requests-requested_pairs.ensures c.factor_pairs-kept_pairs.ensures c.diagnose-diagnosis.ensures
    c.in-ClosureTooLarge.is
