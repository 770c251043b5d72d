use Rattle.basics.proofs.Words.{arith}
use Rattle.stage.proofs.Marks.{place_0, place_1, place_2, place_3, place_4}
use Rattle.stage.proofs.StageWork.{left_start, makes_next, left_told, makes_broken}
use Rattle.stage.proofs.arc_left.Goals as goal

-- src/lib.rt:91:9
pub returns-then-stage-eq0 : goal.returns-then-stage-eq0
returns-then-stage-eq0 c = left_told left_start (omega (arith, c.if-stage-eq0.true))

-- src/lib.rt:94:9
pub returns-then-not-makes : goal.returns-then-not-makes
returns-then-not-makes c =
    makes_broken 0 c.args.target (omega (arith, c.if-stage-eq0.false)) (place_0 _) c.makes.ensures c.if-not-makes.true

-- src/lib.rt:97:9
pub returns-then-stage-eq1 : goal.returns-then-stage-eq1
returns-then-stage-eq1 c =
    left_told (makes_next c.args.target left_start (place_0 _) c.makes.ensures c.if-not-makes.false) (omega (arith, c.if-stage-eq1.true))

-- src/lib.rt:100:9
pub returns-then-not-makes-2 : goal.returns-then-not-makes-2
returns-then-not-makes-2 c =
    makes_broken 1 c.args.target (omega (arith, c.if-stage-eq0.false, c.if-stage-eq1.false)) (place_1 _) c.makes-2.ensures c.if-not-makes-2.true

-- src/lib.rt:103:9
pub returns-then-stage-eq2 : goal.returns-then-stage-eq2
returns-then-stage-eq2 c =
    let target = c.args.target in
    left_told (makes_next (target) (makes_next (target) left_start (place_0 _) c.makes.ensures c.if-not-makes.false) (place_1 _) c.makes-2.ensures c.if-not-makes-2.false) (omega (arith, c.if-stage-eq2.true))

-- src/lib.rt:106:9
pub returns-then-not-makes-3 : goal.returns-then-not-makes-3
returns-then-not-makes-3 c =
    makes_broken 2 c.args.target (omega (arith, c.if-stage-eq0.false, c.if-stage-eq1.false, c.if-stage-eq2.false)) (place_2 _) c.makes-3.ensures c.if-not-makes-3.true

-- src/lib.rt:109:9
pub returns-then-stage-eq3 : goal.returns-then-stage-eq3
returns-then-stage-eq3 c =
    let target = c.args.target in
    left_told (makes_next (target) (makes_next (target) (makes_next (target) left_start (place_0 _) c.makes.ensures c.if-not-makes.false) (place_1 _) c.makes-2.ensures c.if-not-makes-2.false) (place_2 _) c.makes-3.ensures c.if-not-makes-3.false) (omega (arith, c.if-stage-eq3.true))

-- src/lib.rt:112:9
pub returns-then-not-makes-4 : goal.returns-then-not-makes-4
returns-then-not-makes-4 c =
    makes_broken 3 c.args.target (omega (arith, c.if-stage-eq0.false, c.if-stage-eq1.false, c.if-stage-eq2.false, c.if-stage-eq3.false)) (place_3 _) c.makes-4.ensures c.if-not-makes-4.true

-- src/lib.rt:115:9
pub returns-then-stage-eq4 : goal.returns-then-stage-eq4
returns-then-stage-eq4 c =
    let target = c.args.target in
    left_told (makes_next (target) (makes_next (target) (makes_next (target) (makes_next (target) left_start (place_0 _) c.makes.ensures c.if-not-makes.false) (place_1 _) c.makes-2.ensures c.if-not-makes-2.false) (place_2 _) c.makes-3.ensures c.if-not-makes-3.false) (place_3 _) c.makes-4.ensures c.if-not-makes-4.false) (omega (arith, c.if-stage-eq4.true))

-- src/lib.rt:118:9
pub returns-then-not-makes-5 : goal.returns-then-not-makes-5
returns-then-not-makes-5 c =
    makes_broken 4 c.args.target (omega (arith, c.if-stage-eq0.false, c.if-stage-eq1.false, c.if-stage-eq2.false, c.if-stage-eq3.false, c.if-stage-eq4.false)) (place_4 _) c.makes-5.ensures c.if-not-makes-5.true

-- src/lib.rt:86:1
pub returns : goal.returns
returns c =
    let target = c.args.target in
    left_told (makes_next (target) (makes_next (target) (makes_next (target) (makes_next (target) (makes_next (target) left_start (place_0 _) c.makes.ensures c.if-not-makes.false) (place_1 _) c.makes-2.ensures c.if-not-makes-2.false) (place_2 _) c.makes-3.ensures c.if-not-makes-3.false) (place_3 _) c.makes-4.ensures c.if-not-makes-4.false) (place_4 _) c.makes-5.ensures c.if-not-makes-5.false) (omega (arith, c.requires.3))
