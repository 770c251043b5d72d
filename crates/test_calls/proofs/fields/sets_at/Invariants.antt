use Prim.Native.Nat.{◌≤◌, ◌-◌}
use Rattle.test_calls.proofs.fields.sets_at.Given as goal

abbrev pub invariant-loop-position : goal.invariant-loop-position
invariant-loop-position l = l.position ≤ 32

abbrev pub decreases-loop-position : goal.decreases-loop-position
decreases-loop-position l = 32 - l.position
