use Rattle.cells.proofs.fours.without_four.Goals as goal

pub returns : goal.returns
returns c = cc
