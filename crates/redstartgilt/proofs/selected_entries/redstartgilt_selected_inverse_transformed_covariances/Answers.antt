use Rattle.redstartgilt.proofs.selected_entries.redstartgilt_selected_inverse_transformed_covariances.Goals as goal

pub returns : goal.returns
returns c = let d = c.selected_inverse_transformed_covariances in
    record { answer = d.result; shown = c.from.ensures; called = d.ensures }
