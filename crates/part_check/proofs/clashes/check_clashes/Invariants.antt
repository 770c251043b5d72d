use Rattle.std.specs.Prelude.{◌≡◌}
use Rattle.basics.proofs.Words.{true, pairwise, every_below}
use Rattle.machine.specs.Part.{arcs_of}
use Rattle.part_check.specs.Clashes.{clash_free_from}
use Rattle.part_check.proofs.clashes.check_clashes.Given as goal

abbrev pub invariant-loop-from : goal.invariant-loop-from
invariant-loop-from l = every_below (λ s. pairwise (clash_free_from s) (arcs_of l.part)) l.from ≡ true
