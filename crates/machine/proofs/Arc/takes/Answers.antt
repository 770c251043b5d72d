use Rattle.basics.proofs.Words.{◌∙◌}
use Rattle.machine.proofs.Arc.takes.Goals as goal

pub returns : goal.returns
returns c pair i o = c.holds.ensures pair.output o ∙ c.outputs_for.ensures pair.input pair.output i
