use Rattle.machine.specs.Part.{sound_arc}
use Rattle.machine.proofs.Arc.is_sound.Goals as goal

pub returns : goal.returns
unfolding sound_arc
returns c S e = rw (c.is_sound.ensures S e, c.is_sound-2.ensures S e)
