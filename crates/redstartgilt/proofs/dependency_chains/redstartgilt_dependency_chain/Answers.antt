use Rattle.redstartgilt.proofs.dependency_chains.redstartgilt_dependency_chain.Goals as goal

pub returns : goal.returns
returns c = let d = c.dependency_chain in
    record { answer = d.result; shown = c.from.ensures; called = d.ensures }
