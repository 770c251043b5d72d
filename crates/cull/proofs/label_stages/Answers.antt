use Rattle.std.specs.Prelude.{◌≡◌, ◌≤◌, ◌<◌}
use Rattle.basics.specs.Words.{List, ℕ, arith, length}
use Rattle.product.specs.Laws.Setting.{few_nodes}
use Rattle.cull.specs.Culling.{CullPre, StagePre}
use Rattle.cull.proofs.Culling.{StagesGone, lent_kept, counts_few, stage_given, stages_start, stages_next, stages_idle, stages_end}
use Rattle.cull.proofs.label_stages.Goals as goal

-- the next stage, under a ranking
stage_ready : {card : List ℕ} {ranking sets counts ws entries ends xs ys : List ℕ} {P k : ℕ} → k < 6 → CullPre card ranking sets counts ws entries ends xs P 0 → StagesGone card ranking sets xs ys k → StagePre card ranking sets counts ws entries ends ys P k
stage_ready h Q A = record { given = stage_given A.size h Q; before = A.before }

stages_at : {card ranking sets xs ys : List ℕ} {i n : ℕ} → StagesGone card ranking sets xs ys i → i ≡ n → StagesGone card ranking sets xs ys n
stages_at A q = rw q at A

-- ---- what each place asks for
pub loop-stage-init : goal.loop-stage-init
loop-stage-init c = λ r Q. stages_start

pub label_stage-requires : goal.label_stage-requires
label_stage-requires c =
    let p = c.requires in
    let s = c.loop-stage.auto in
    ((p.0.0, stage_ready (omega (arith, c.loop-stage-test.true, counts_few p.0.1)) p.0.1 (c.loop-stage.invariant p.0.0 p.0.1)), lent_kept p.1 s.steps s.high s.low)

pub loop-stage-preserved : goal.loop-stage-preserved
loop-stage-preserved c =
    let h : c.loop-stage.stage < 6 = omega (arith, c.loop-stage-test.true, counts_few c.requires.0.1) in
    λ r Q. stages_next (c.loop-stage.invariant r Q) (c.label_stage.ensures r (stage_ready h Q (c.loop-stage.invariant r Q)))

pub loop-place-init : goal.loop-place-init
loop-place-init c = λ r Q. stages_at (c.loop-stage.invariant r Q) (omega (arith, c.loop-stage-test.false, c.loop-stage.auto.stage-end))

pub loop-place-preserved : goal.loop-place-preserved
loop-place-preserved c =
    λ r Q. let B = c.loop-place.invariant r Q in stages_idle Q B.size c.loop-place.auto.place c.loop-place-test.true B c.clear_place.ensures

pub returns : goal.returns
returns c =
    let few : length c.args.counts.now ≤ 6 = omega (arith, counts_few c.requires.0.1) in
    λ r Q. stages_end Q (c.loop-place.invariant r Q) (omega (arith, c.loop-place-test.false, c.loop-place.auto.place-end few))
