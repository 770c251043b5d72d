use Rattle.std.specs.Prelude.{◌≡◌, ◌≤◌, ◌^◌}
use Rattle.ranking.specs.Conditions.{fewer_in}
use Rattle.ranking.proofs.conditions.fewer_in.Given as goal

-- the set of the machines passed, and the bit of the next one
abbrev pub invariant-loop-machine : goal.invariant-loop-machine
invariant-loop-machine l =
    (l.machine ≤ l.machines) × (l.bit ≡ 2 ^ l.machine) × (l.set ≡ fewer_in l.machine l.first.counts l.second.counts)
