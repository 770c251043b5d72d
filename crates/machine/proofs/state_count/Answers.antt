use Rattle.basics.proofs.Words.{arith}
use Rattle.machine.specs.Accepted.{shape_facts}
use Rattle.machine.proofs.state_count.Goals as goal

pub bounds-part-0 : goal.bounds-part-0
bounds-part-0 c = omega (arith, shape_facts _ c.requires)
