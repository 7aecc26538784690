use Rattle.redstartgilt.proofs.wholes.redstartgilt_selected_inverse_entries_whole_with_limit.Goals as goal

pub returns : goal.returns
returns c = let d = c.selected_inverse_entries_whole_with_limit in
    record { answer = d.result; shown = c.from.ensures; called = d.ensures }
