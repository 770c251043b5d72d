use Rattle.std.specs.Prelude.{◌≡◌, ◌≤◌, ◌+◌}
use Rattle.basics.proofs.Words.{length, drop, occurrences}
use Rattle.ranking.proofs.rankings.stands_once.Given as goal

-- what was counted, at most one, with the occurrences in what is left of the list
abbrev pub invariant-loop-other : goal.invariant-loop-other
invariant-loop-other l =
    (l.other-index ≤ length l.list) × (l.count ≤ 1) × (l.count + occurrences l.machine (drop l.other-index l.list) ≡ occurrences l.machine l.list)
