use Rattle.std.specs.Prelude.{◌≤◌}
use Rattle.candidate.specs.Candidates.{pairs_of}
use Rattle.candidate.proofs.Scoring.{ScoredBelow}
use Rattle.candidate.proofs.score.Given as goal

abbrev pub invariant-loop-machine : goal.invariant-loop-machine
invariant-loop-machine l = (l.machines ≤ 6) × ScoredBelow l.card (pairs_of l.candidate) l.machine l.counts
