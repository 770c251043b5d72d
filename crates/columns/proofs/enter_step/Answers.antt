use Rattle.std.specs.Prelude.{◌&&◌}
use Rattle.basics.proofs.Words.{sym, ap, ◌∙◌, not, ℕ, arith, eqb, member}
use Rattle.cells.specs.Laws.Numbers.{column_few}
use Rattle.columns.proofs.Entering.{enter_start, enter_in, enter_next, enter_end}
use Rattle.columns.proofs.enter_step.Goals as goal

pub loop-left-preserved : goal.loop-left-preserved
loop-left-preserved c =
    enter_next c.requires c.loop-left.invariant c.least-y.result c.without_least-left.result c.least-y.ensures.1 c.least-y.ensures.2
    (λ n. c.without_least-left.ensures.1 n ∙ ap (λ (m : ℕ). member c.loop-left.left n && not (eqb n m)) (sym c.least-y.ensures.0))
