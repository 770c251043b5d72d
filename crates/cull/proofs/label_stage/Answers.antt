use Rattle.std.specs.Prelude.{◌≡◌, ◌-◌, ◌≤◌}
use Rattle.basics.specs.Words.{refl, ◌∙◌, List, ℕ, arith, length}
use Rattle.product.specs.Laws.Setting.{few_nodes}
use Rattle.cull.specs.Culling.{StagePre}
use Rattle.cull.proofs.Positions.{position_there}
use Rattle.cull.proofs.Culling.{PositionDone, lent_kept, last_pre, last_entered, last_ready, last_labelled, symbols_pre, position_entered, settle_ready, position_labelled, position_ready, position_passed, stage_end}
use Rattle.cull.proofs.label_stage.Goals as goal

-- ---- before the loop
pub enter_last-requires : goal.enter_last-requires
enter_last-requires c =
    last_pre (last_ready c.requires.0.1 c.blank.ensures) c.requires.1

pub settle-requires : goal.settle-requires
settle-requires c =
    let q = last_ready c.requires.0.1 c.blank.ensures in
    settle_ready q (last_entered q c.requires.1 c.enter_last.ensures)

-- ---- in the loop
pub loop-position-init : goal.loop-position-init
loop-position-init c = λ r Q. last_labelled Q c.requires.1 c.blank.ensures c.enter_last.ensures c.settle.ensures

pub enter_symbols-requires : goal.enter_symbols-requires
enter_symbols-requires c =
    let i = c.loop-position-test.true in
    let Q = c.requires in
    let l = c.loop-position.auto in
    let k = c.enter_last.auto in
    symbols_pre (position_ready Q.0.1 c.loop-position.position (omega (arith, i)) l.position (c.loop-position.invariant _ Q.0.1)) (lent_kept Q.1 (l.steps ∙ k.steps) (l.high ∙ k.high) (l.low ∙ k.low)) (omega (arith, l.position, i))

pub settle-requires-in-loop-position : goal.settle-requires-in-loop-position
settle-requires-in-loop-position c =
    let i = c.loop-position-test.true in
    let Q = c.requires in
    let l = c.loop-position.auto in
    let q = position_ready Q.0.1 c.loop-position.position (omega (arith, i)) l.position (c.loop-position.invariant _ Q.0.1) in
    settle_ready q (position_entered q Q.1 (omega (arith, l.position, i)) c.enter_symbols.ensures)

pub loop-position-preserved : goal.loop-position-preserved
loop-position-preserved c =
    let i = c.loop-position-test.true in
    let L = c.requires.1 in
    let h = c.loop-position.auto.position in
    λ r Q.
    let A = c.loop-position.invariant r Q in
    let q = position_ready Q c.loop-position.position (omega (arith, i)) h A in
    position_passed A.size (position_labelled q (position_entered q L (omega (arith, h, i)) c.enter_symbols.ensures) c.settle-in-loop-position.ensures)

pub returns : goal.returns
returns c = λ r Q. stage_end (c.loop-position.invariant r Q) (omega (arith, c.loop-position-test.false))
