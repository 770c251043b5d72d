use Rattle.std.specs.Prelude.{◌≡◌, ◌≤◌}
use Rattle.basics.proofs.Words.{length, drop}
use Rattle.ranking.specs.Harmony.{harmony}
use Rattle.ranking.proofs.harmony.harmony.Given as goal

-- what is left of the ranking decides
abbrev pub invariant-loop-machine : goal.invariant-loop-machine
invariant-loop-machine l =
    (l.machine-index ≤ length l.ranking) × (harmony (drop l.machine-index l.ranking) l.first.counts l.second.counts ≡ harmony l.ranking l.first.counts l.second.counts)
