use Rattle.machine.specs.Part.{arc_at}
use Rattle.machine.proofs.part.read_arc.Goals as goal

pub returns : goal.returns
unfolding arc_at
returns c = rw (c.eight_bytes.ensures, c.eight_bytes-2.ensures)
