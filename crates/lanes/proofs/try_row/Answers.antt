use Rattle.basics.proofs.Words.{arith}
use Rattle.lanes.proofs.Trying.{tried_code}
use Rattle.lanes.proofs.try_row.Goals as goal

pub loop-b-preserved : goal.loop-b-preserved
loop-b-preserved c =
    let t = c.loop-b-test.true in
    (tried_code c.requires.0 c.args.a c.loop-b.b t c.try_code.auto.own c.loop-b.invariant.0 (omega arith) c.try_code.ensures, omega (arith, t))
