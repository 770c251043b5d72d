use Rattle.std.specs.Prelude.{◌*◌}
use Rattle.basics.proofs.Words.{not, length}
use Rattle.finder.specs.Steps.{blocks}
use Rattle.finder.proofs.Pairs.{Reached}
use Rattle.finder.proofs.may_stand.Given as goal

abbrev pub invariant-loop-i : goal.invariant-loop-i
invariant-loop-i l = Reached (λ c. not (blocks l.placed l.machine c)) l.conditions (2 * l.i)
