use Rattle.std.specs.Prelude.{◌*◌, ◌≤◌}
use Rattle.basics.proofs.Words.{get_or}
use Rattle.settling.specs.Insertions.{lists_of}
use Rattle.settling.proofs.Spreading.{Spreading}
use Rattle.settling.proofs.spread.Given as goal

abbrev pub invariant-loop-at : goal.invariant-loop-at
invariant-loop-at l =
    (get_or l.ends (4 * l.to) 0 ≤ l.at) × Spreading (lists_of l.entries l.ends l.highs l.ranked) l.initial.own l.own l.initial.opened l.opened l.to l.at (l.high, l.low)
