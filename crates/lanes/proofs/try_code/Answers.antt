use Rattle.std.specs.Prelude.{◌+◌}
use Rattle.basics.proofs.Words.{sym, ◌∙◌, ap, ℕ, arith}
use Rattle.cells.specs.declared.Cell.{Cell}
use Rattle.cells.specs.Labels.{cell_at}
use Rattle.lanes.specs.Trying.{lesser, way_of}
use Rattle.lanes.specs.Laws.Least.{least_none, least_next}
use Rattle.lanes.proofs.try_code.Goals as goal

pub loop-j-init : goal.loop-j-init
loop-j-init c =
    (omega arith, sym (least_none (λ k. way_of c.args.next.now c.args.high.now c.args.low.now (c.args.a + k) (c.args.b + k)) (cell_at c.args.own.now c.args.code)))

pub loop-j-preserved : goal.loop-j-preserved
loop-j-preserved c =
    let f : ℕ → Cell = (λ k. way_of c.args.next.now c.args.high.now c.args.low.now (c.args.a + k) (c.args.b + k)) in
    (omega (arith, c.loop-j-test.true), c.try_lane-label.ensures ∙ ap (lesser (f c.loop-j.j)) c.loop-j.invariant.1 ∙ sym (least_next f c.loop-j.j (cell_at c.args.own.now c.args.code)))
