use Rattle.std.specs.Prelude.{◌*◌, ◌<◌, ◌≤◌}
use Rattle.basics.proofs.Words.{ℕ, get_or}
use Rattle.settling.proofs.worst.Given as goal

abbrev pub invariant-loop-code : goal.invariant-loop-code
invariant-loop-code l = (w : ℕ) → w < l.code → get_or l.own (2 * w) 0 ≤ l.most
