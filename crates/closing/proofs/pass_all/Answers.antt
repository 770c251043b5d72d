use Rattle.std.specs.Prelude.{◌≡◌}
use Rattle.basics.proofs.Words.{subst, arith}
use Rattle.closing.proofs.Passing.{PassedBelow, passed_start, pass_pre, passed_next, passed_end}
use Rattle.closing.proofs.pass_all.Goals as goal

pub loop-code-init : goal.loop-code-init
loop-code-init c = passed_start _ _ _ c.requires

pub pass_on-requires : goal.pass_on-requires
pass_on-requires c =
    pass_pre _ _ _ c.requires _ _ _ c.loop-code.invariant c.loop-code-test.true

pub loop-code-preserved : goal.loop-code-preserved
loop-code-preserved c =
    passed_next _ _ _ c.requires _ _ _ c.loop-code.invariant _ _ c.pass_on.ensures

pub returns : goal.returns
returns c =
    let e : c.loop-code.code ≡ c.args.size = omega arith in
    passed_end _ _ _ c.requires _ _ (subst (PassedBelow _ _ _ _) e c.loop-code.invariant)
