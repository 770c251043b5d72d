use Rattle.std.specs.Prelude.{◌≡◌}
use Rattle.basics.proofs.Words.{length}
use Rattle.outputs.proofs.Keeping.{WorthTo}
use Rattle.outputs.proofs.worth.Given as goal

abbrev pub invariant-loop-left : goal.invariant-loop-left
invariant-loop-left l = WorthTo l.steps l.width l.outputs l.kept l.left × (length l.last ≡ 256)

abbrev pub decreases-loop-left : goal.decreases-loop-left
decreases-loop-left l = l.left
