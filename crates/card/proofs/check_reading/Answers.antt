use Rattle.basics.proofs.Words.{arith}
use Rattle.refusals.proofs.Refusals.{passed_number}
use Rattle.card.specs.Accepted.{accepted}
use Rattle.card.proofs.check_reading.Goals as goal

pub bounds-card-0 : goal.bounds-card-0
bounds-card-0 c =
    omega (arith, (accepted c.args.card.now (passed_number c.in_ok-check.was c.check.ensures)).head)
