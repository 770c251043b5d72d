use Rattle.basics.proofs.Words.{refl, sym, ◌∙◌, ap, [], arith}
use Rattle.insertions.specs.Lanes.{bump}
use Rattle.insertions.specs.Tables.{code_lane}
use Rattle.insertions.proofs.Lanes.{bump_same, bumped_none, bumped_next, count_next}
use Rattle.insertions.proofs.count_code.Goals as goal

pub loop-j-init : goal.loop-j-init
loop-j-init c = sym (bumped_none 2 (code_lane c.args.high.now [] c.args.code c.args.a c.args.b) c.args.ends.now)

pub count_lane-requires : goal.count_lane-requires
count_lane-requires c =
    count_next 2 (code_lane c.args.high.now [] c.args.code c.args.a c.args.b) c.loop-j.j 1 4 (omega arith) (omega (arith, c.loop-j-test.true)) c.loop-j.invariant c.requires.0

pub loop-j-preserved : goal.loop-j-preserved
loop-j-preserved c =
    let f = code_lane c.args.high.now [] c.args.code c.args.a c.args.b in
    c.count_lane.ensures ∙ bump_same 2 _ (f c.loop-j.j) c.loop-j.ends refl refl ∙ ap (bump 2 (f c.loop-j.j)) c.loop-j.invariant ∙ sym (bumped_next 2 f c.args.ends.now c.loop-j.j)
