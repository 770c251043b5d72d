use Rattle.cells.proofs.fours.next_four.Goals as goal

pub returns : goal.returns
returns c = cc
