use Rattle.std.specs.Prelude.{◌≡◌, ◌≤◌}
use Rattle.basics.proofs.Words.{true, length, eqb, occurrences, every_below}
use Rattle.ranking.proofs.rankings.check_ranking.Given as goal

-- each machine passed stands in the list once
abbrev pub invariant-loop-machine : goal.invariant-loop-machine
invariant-loop-machine l =
    (l.machine ≤ l.machines) × (length l.ranking ≡ l.machines) × (every_below (λ m. eqb (occurrences m l.ranking) 1) l.machine ≡ true)
