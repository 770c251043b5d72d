use Rattle.std.specs.Prelude.{◌*◌}
use Rattle.basics.proofs.Words.{length}
use Rattle.finder.specs.Finder.{sound_condition}
use Rattle.finder.proofs.Pairs.{Reached}
use Rattle.finder.proofs.check_conditions.Given as goal

abbrev pub invariant-loop-i : goal.invariant-loop-i
invariant-loop-i l = Reached (sound_condition l.machines) l.conditions (2 * l.i)
