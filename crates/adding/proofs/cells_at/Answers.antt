use Rattle.basics.proofs.Words.{◌∙◌, ap, ℕ, length-set}
use Rattle.tables.proofs.JointRows.{row_next}
use Rattle.adding.specs.Cells.{high_cell, low_cell, step_at}
use Rattle.adding.proofs.cells_at.Goals as goal

pub loop-j-preserved : goal.loop-j-preserved
loop-j-preserved c =
    let t = c.loop-j-test.true in
    let i = c.index.ensures.0 in (
      row_next _ _ c.loop-j.invariant.0 t _ (c.high_cell.ensures ∙ ap (λ (n : ℕ). high_cell c.args.scale c.args.upper (step_at c.args.steps.now c.args.width n c.args.place)) i),
      row_next _ _ c.loop-j.invariant.1 t _ (c.low_cell.ensures ∙ ap (λ (n : ℕ). low_cell c.args.lower (step_at c.args.steps.now c.args.width n c.args.place)) i),
      simp length-set c.loop-j.invariant.2,
      simp length-set c.loop-j.invariant.3,
    )
