use Rattle.machine_weights.proofs.six_highs.Goals as goal

-- src/lib.rt:58:1
pub returns : goal.returns
returns c = cc
