use native.Mathlib.Omega.{arith}
use Rattle.stage_entering.proofs.Lanes.{lanes_next, lane_ready, lane_first, lanes_first, first_sum_lem}
use Rattle.stage_entering.proofs.try_code.Goals as goal

pub overflow_add-high : goal.overflow_add-high
overflow_add-high c = omega (arith, first_sum_lem c.requires.highs)

pub overflow_add-low : goal.overflow_add-low
overflow_add-low c =
    omega (arith, first_sum_lem c.requires.lows)

pub try_lane-requires : goal.try_lane-requires
try_lane-requires c =
    lane_first c.requires c.front_counts-goal.ensures

pub try_lane-requires-2 : goal.try_lane-requires-2
try_lane-requires-2 c =
    let A = c.args in lane_ready {j = 1} c.requires c.front_counts-goal.ensures (lanes_first {high = A.high.now} {low = A.low.now} {a = A.a} {b = A.b} c.try_lane.ensures) (omega arith)

pub try_lane-requires-3 : goal.try_lane-requires-3
try_lane-requires-3 c =
    let A = c.args in lane_ready {j = 2} c.requires c.front_counts-goal.ensures (lanes_next {high = A.high.now} {low = A.low.now} {a = A.a} {b = A.b} {n = 1} (lanes_first {high = A.high.now} {low = A.low.now} {a = A.a} {b = A.b} c.try_lane.ensures) c.try_lane-2.ensures) (omega arith)

pub try_lane-requires-4 : goal.try_lane-requires-4
try_lane-requires-4 c =
    let A = c.args in lane_ready {j = 3} c.requires c.front_counts-goal.ensures (lanes_next {high = A.high.now} {low = A.low.now} {a = A.a} {b = A.b} {n = 2} (lanes_next {high = A.high.now} {low = A.low.now} {a = A.a} {b = A.b} {n = 1} (lanes_first {high = A.high.now} {low = A.low.now} {a = A.a} {b = A.b} c.try_lane.ensures) c.try_lane-2.ensures) c.try_lane-3.ensures) (omega arith)

pub shape_of-work : goal.shape_of-work
shape_of-work c =
    let A = c.args in (lanes_next {high = A.high.now} {low = A.low.now} {a = A.a} {b = A.b} {n = 3} (lanes_next {high = A.high.now} {low = A.low.now} {a = A.a} {b = A.b} {n = 2} (lanes_next {high = A.high.now} {low = A.low.now} {a = A.a} {b = A.b} {n = 1} (lanes_first {high = A.high.now} {low = A.low.now} {a = A.a} {b = A.b} c.try_lane.ensures) c.try_lane-2.ensures) c.try_lane-3.ensures) c.try_lane-4.ensures).size

pub returns : goal.returns
returns c =
    let A = c.args in (lanes_next {high = A.high.now} {low = A.low.now} {a = A.a} {b = A.b} {n = 3} (lanes_next {high = A.high.now} {low = A.low.now} {a = A.a} {b = A.b} {n = 2} (lanes_next {high = A.high.now} {low = A.low.now} {a = A.a} {b = A.b} {n = 1} (lanes_first {high = A.high.now} {low = A.low.now} {a = A.a} {b = A.b} c.try_lane.ensures) c.try_lane-2.ensures) c.try_lane-3.ensures) c.try_lane-4.ensures)
