use Rattle.basics.proofs.Words.{arith}
use Rattle.machine.specs.Accepted.{shape_facts}
use Rattle.machine.proofs.arc_count.Goals as goal

pub bounds-part-1 : goal.bounds-part-1
bounds-part-1 c = omega (arith, shape_facts _ c.requires)
