use Rattle.std.specs.Prelude.{◌≡◌}
use Rattle.basics.proofs.Words.{subst, arith}
use Rattle.closing.specs.Closing.{CountsClosed}
use Rattle.closing.proofs.ClosingCodes.{stored_start, has_node, stored_next}
use Rattle.closing.proofs.close_counts.Goals as goal

pub loop-code-init : goal.loop-code-init
loop-code-init c = stored_start _ _ _

pub store-requires : goal.store-requires
store-requires c =
    let k = c.loop-code-test.true in
    (has_node c.loop-code.invariant c.requires.0 k, c.requires.0.high _ k)

pub loop-code-preserved : goal.loop-code-preserved
loop-code-preserved c = stored_next c.loop-code.invariant c.store.ensures

pub returns : goal.returns
returns c =
    let e : c.loop-code.code ≡ c.args.size = omega arith in
    (subst (CountsClosed _ _ _ _) e c.loop-code.invariant, c.pass_all.ensures)
