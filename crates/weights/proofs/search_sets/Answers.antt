use Rattle.weights.proofs.Reading.{label_ready}
use Rattle.weights.proofs.Answering.{after_pre}
use Rattle.weights.proofs.search_sets.Goals as goal

pub label-requires : goal.label-requires
label-requires c = (label_ready c.requires.0, c.requires.1)

pub read_out-requires : goal.read_out-requires
read_out-requires c = (after_pre c.requires.0 c.label.ensures, c.label.ensures.done, c.requires.1)
