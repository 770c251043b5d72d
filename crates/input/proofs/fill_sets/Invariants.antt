use Rattle.std.specs.Prelude.{◌≡◌, ◌≤◌}
use Rattle.basics.proofs.Words.{length}
use Rattle.input.proofs.Words.{FilledBelow}
use Rattle.input.proofs.fill_sets.Given as goal

abbrev pub invariant-loop-i : goal.invariant-loop-i
invariant-loop-i l = FilledBelow l.word l.sets l.i × (l.i-end ≡ length l.word) × (l.i ≤ l.i-end)
