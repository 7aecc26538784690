use Rattle.redstartgilt.proofs.row_covariances_with_limit.redstartgilt_selected_inverse_transformed_covariances_with_limit.Goals as goal

pub returns : goal.returns
returns c = let d = c.selected_inverse_transformed_covariances_with_limit in
    record { answer = d.result; shown = c.from.ensures; called = d.ensures }
