use Rattle.basics.specs.Words.{arith}
use Rattle.machine.specs.Accepted.{shape_facts}
use Rattle.joined.proofs.Parts.{state_byte_at}
use Rattle.joined.proofs.state_byte.Goals as goal

pub bounds-part-state : goal.bounds-part-state
bounds-part-state c = omega (arith, shape_facts _ c.requires.0)

pub returns : goal.returns
returns c = state_byte_at c.args.part.now c.args.state c.requires.1
