use Rattle.std.specs.Prelude.{◌≡◌}
use Rattle.basics.proofs.Words.{subst, arith}
use Rattle.closing.specs.Closing.{SumsClosed}
use Rattle.closing.proofs.ClosingSums.{sums_start, sums_next}
use Rattle.closing.proofs.close_sums.Goals as goal

pub loop-code-init : goal.loop-code-init
loop-code-init c = sums_start _ _ _

pub sum_of-requires : goal.sum_of-requires
sum_of-requires c =
    c.requires.0.few _ c.loop-code-test.true

pub loop-code-preserved : goal.loop-code-preserved
loop-code-preserved c =
    sums_next c.requires.0 c.loop-code-test.true c.loop-code.invariant _ c.sum_of.ensures

pub returns : goal.returns
returns c =
    let e : c.loop-code.code ≡ c.args.size = omega arith in
    (subst (SumsClosed _ _ _ _) e c.loop-code.invariant, c.pass_all.ensures)
