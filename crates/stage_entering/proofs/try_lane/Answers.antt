use Rattle.std.specs.Prelude.{◌<◌}
use Rattle.basics.proofs.Words.{sym, subst, ℕ, arith}
use Rattle.stage_entering.proofs.Front.{front_room}
use Rattle.stage_entering.proofs.Lanes.{marks_small, lane_arc, lane_nothing, lane_passed, lane_tried}
use Rattle.stage_entering.proofs.try_lane.Goals as goal

pub returns-then-step-ge-NOWHERE : goal.returns-then-step-ge-NOWHERE
returns-then-step-ge-NOWHERE c = lane_nothing (omega (arith, c.if-step-ge-NOWHERE.true))

pub returns-then-front-goal : goal.returns-then-front-goal
returns-then-front-goal c =
    lane_passed c.requires (omega (arith, c.if-step-ge-NOWHERE.false)) c.behind_front.ensures (omega (arith, c.if-front-goal.true))

pub try_arc-requires : goal.try_arc-requires
try_arc-requires c =
    lane_arc c.requires (subst (λ (m : ℕ). m < 16777216) (sym c.marks_of.ensures) (marks_small _ _))

pub returns : goal.returns
returns c =
    lane_tried (omega (arith, c.if-step-ge-NOWHERE.false)) c.marks_of.ensures c.try_arc.ensures
