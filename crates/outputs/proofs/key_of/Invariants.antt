use Rattle.std.specs.Prelude.{◌*◌, ◌≤◌}
use Rattle.outputs.proofs.key_of.Given as goal

abbrev pub invariant-loop-place : goal.invariant-loop-place
invariant-loop-place l = l.sum ≤ l.place * 5177265
