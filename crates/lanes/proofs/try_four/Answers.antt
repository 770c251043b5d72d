use Rattle.std.specs.Prelude.{◌≡◌, ◌+◌, ◌*◌}
use Rattle.basics.proofs.Words.{◌∙◌, arith, add-mul}
use Rattle.lanes.proofs.Trying.{tried_row}
use Rattle.lanes.proofs.try_four.Goals as goal

pub loop-a-preserved : goal.loop-a-preserved
loop-a-preserved c =
    let e : (c.loop-a.a + 1) * c.args.back ≡ c.loop-a.a * c.args.back + c.args.back = add-mul c.loop-a.a 1 c.args.back ∙ omega arith in
    (rw e (tried_row c.requires.0 (c.loop-a.a * c.args.back) (c.loop-a.a * c.args.back + c.args.back) (omega arith) c.loop-a.invariant.0 c.try_front.ensures), omega (arith, c.loop-a-test.true))
