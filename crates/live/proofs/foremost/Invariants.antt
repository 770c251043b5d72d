use Rattle.std.specs.Prelude.{◌≡◌}
use Rattle.basics.specs.Words.{drop}
use Rattle.live.specs.Steps.{best_from}
use Rattle.live.proofs.foremost.Given as goal

-- the best row so far and the later ones have the best row of all
abbrev pub invariant-loop-row : goal.invariant-loop-row
invariant-loop-row l = best_from l.ranking l.best (drop l.row-index l.row-items) ≡ best_from l.ranking l.initial.best l.row-items
