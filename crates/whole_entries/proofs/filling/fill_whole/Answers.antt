use Prim.Native.Nat.{min}
use native.Mathlib.Omega.{arith}
use mathlib.Core.Path.{◌≡◌, ap, ◌∙◌}
use Rattle.whole_selection.specs.Call.{WholeCall, WholeLent, whole_call, whole_lent, whole_room_of, work_places}
use Rattle.whole_selection.specs.Accepted.{WholeAccepted}
use Rattle.whole_selection.proofs.Accepted.{whole_accepted}
use Rattle.whole_entries.proofs.ReplyLaws.{uncleared_entries}
use Rattle.whole_entries.proofs.filling.fill_whole.Goals as goal

-- the call and the lists that it is lent
abbrev handed-After-fill_requested-arg-5-1 : goal.After-fill_requested-arg-5-1 → WholeCall
handed-After-fill_requested-arg-5-1 s =
    let a = s.args in
    whole_call a.n a.starts.now a.rows.now a.values.now a.dimension a.request_rows.now a.request_columns.now a.limit

-- the call and the lists that it is lent
abbrev handed-After-clear_scratch-arg-1 : goal.After-clear_scratch-arg-1 → WholeCall
handed-After-clear_scratch-arg-1 s =
    let a = s.args in
    whole_call a.n a.starts.now a.rows.now a.values.now a.dimension a.request_rows.now a.request_columns.now a.limit

-- the call and the lists that it is lent
abbrev handed-After-clear_wholes-arg-1 : goal.After-clear_wholes-arg-1 → WholeCall
handed-After-clear_wholes-arg-1 s =
    let a = s.args in
    whole_call a.n a.starts.now a.rows.now a.values.now a.dimension a.request_rows.now a.request_columns.now a.limit

-- the call and the lists that it is lent
abbrev handed-After-min : goal.After-min → WholeCall
handed-After-min s =
    let a = s.args in
    whole_call a.n a.starts.now a.rows.now a.values.now a.dimension a.request_rows.now a.request_columns.now a.limit

-- the call and the lists that it is lent
abbrev handed-After-work-2-1 : goal.After-work-2-1 → WholeCall
handed-After-work-2-1 s =
    let a = s.args in
    whole_call a.n a.starts.now a.rows.now a.values.now a.dimension a.request_rows.now a.request_columns.now a.limit

abbrev lent-After-fill_requested-arg-5-1 : goal.After-fill_requested-arg-5-1 → WholeLent
lent-After-fill_requested-arg-5-1 s = let a = s.args in whole_lent a.result_starts.now a.result_rows.now a.result_values.now a.scratch.now a.work.now

abbrev lent-After-clear_scratch-arg-1 : goal.After-clear_scratch-arg-1 → WholeLent
lent-After-clear_scratch-arg-1 s = let a = s.args in whole_lent a.result_starts.now a.result_rows.now a.result_values.now a.scratch.now a.work.now

abbrev lent-After-clear_wholes-arg-1 : goal.After-clear_wholes-arg-1 → WholeLent
lent-After-clear_wholes-arg-1 s = let a = s.args in whole_lent a.result_starts.now a.result_rows.now a.result_values.now a.scratch.now a.work.now

abbrev lent-After-min : goal.After-min → WholeLent
lent-After-min s = let a = s.args in whole_lent a.result_starts.now a.result_rows.now a.result_values.now a.scratch.now a.work.now

abbrev lent-After-work-2-1 : goal.After-work-2-1 → WholeLent
lent-After-work-2-1 s = let a = s.args in whole_lent a.result_starts.now a.result_rows.now a.result_values.now a.scratch.now a.work.now

accepted-After-fill_requested-arg-5-1 : (s : goal.After-fill_requested-arg-5-1) → WholeAccepted (handed-After-fill_requested-arg-5-1 s) (whole_room_of (lent-After-fill_requested-arg-5-1 s))
accepted-After-fill_requested-arg-5-1 s = whole_accepted (handed-After-fill_requested-arg-5-1 s) (whole_room_of (lent-After-fill_requested-arg-5-1 s)) s.requires

accepted-After-clear_scratch-arg-1 : (s : goal.After-clear_scratch-arg-1) → WholeAccepted (handed-After-clear_scratch-arg-1 s) (whole_room_of (lent-After-clear_scratch-arg-1 s))
accepted-After-clear_scratch-arg-1 s = whole_accepted (handed-After-clear_scratch-arg-1 s) (whole_room_of (lent-After-clear_scratch-arg-1 s)) s.requires

accepted-After-clear_wholes-arg-1 : (s : goal.After-clear_wholes-arg-1) → WholeAccepted (handed-After-clear_wholes-arg-1 s) (whole_room_of (lent-After-clear_wholes-arg-1 s))
accepted-After-clear_wholes-arg-1 s = whole_accepted (handed-After-clear_wholes-arg-1 s) (whole_room_of (lent-After-clear_wholes-arg-1 s)) s.requires

accepted-After-min : (s : goal.After-min) → WholeAccepted (handed-After-min s) (whole_room_of (lent-After-min s))
accepted-After-min s = whole_accepted (handed-After-min s) (whole_room_of (lent-After-min s)) s.requires

-- how many places of the work list are cleared
places-After-min : (c : goal.After-min) → let a = c.args in c.min.result ≡ work_places a.n a.limit
places-After-min c = c.min.ensures ∙ ap (min c.args.limit) c.pair_total.ensures.0

-- how many places of the work list are cleared
places-After-work-2-1 : (c : goal.After-work-2-1) → let a = c.args in c.min.result ≡ work_places a.n a.limit
places-After-work-2-1 c = c.min.ensures ∙ ap (min c.args.limit) c.pair_total.ensures.0

pub fill_requested-reply-requires : goal.fill_requested-reply-requires
fill_requested-reply-requires c = accepted-After-fill_requested-arg-5-1 c

pub clear_scratch-requires : goal.clear_scratch-requires
clear_scratch-requires c = let A = accepted-After-clear_scratch-arg-1 c in
    (A.small, omega (arith, A.room.scratch_room, c.fill_requested-reply.auto.scratch))

pub pair_total-requires : goal.pair_total-requires
pair_total-requires c = (accepted-After-clear_wholes-arg-1 c).small

pub clear_wholes-requires : goal.clear_wholes-requires
clear_wholes-requires c = omega (arith, places-After-min c, (accepted-After-min c).work_room, c.fill_requested-reply.auto.work)

pub returns : goal.returns
returns c = uncleared_entries (handed-After-work-2-1 c) (lent-After-work-2-1 c) c.requires c.fill_requested-reply.ensures c.clear_scratch.ensures (places-After-work-2-1 c) c.clear_wholes.ensures
