use Rattle.std.specs.Prelude.{◌<◌}
use Rattle.test_calls.proofs.writing.write_slice.Given as goal

abbrev pub invariant-loop-byte : goal.invariant-loop-byte
invariant-loop-byte g l = l.sum < 1000000007
