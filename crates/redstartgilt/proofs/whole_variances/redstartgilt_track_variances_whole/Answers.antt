use Rattle.redstartgilt.proofs.whole_variances.redstartgilt_track_variances_whole.Goals as goal

pub returns : goal.returns
returns c = let d = c.track_variances_whole in
    record { answer = d.result; shown = c.checked_number.ensures; called = d.ensures }
