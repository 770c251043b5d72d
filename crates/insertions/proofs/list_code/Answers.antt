use Rattle.std.specs.Prelude.{◌≡◌, ◌+◌}
use Rattle.basics.proofs.Words.{sym, ◌∙◌, ap, arith}
use Rattle.insertions.specs.Lanes.{bump, put}
use Rattle.insertions.specs.Tables.{code_lane}
use Rattle.insertions.proofs.Lanes.{bumped_none, bumped_next, placed_none, placed_next, entry_next}
use Rattle.insertions.proofs.list_code.Goals as goal

pub loop-j-init : goal.loop-j-init
loop-j-init c =
    let f = code_lane c.args.high.now c.args.low.now c.args.code c.args.a c.args.b in
    (sym (placed_none f c.args.entries.now c.args.ends.now), sym (bumped_none 1 f c.args.ends.now))

pub list_lane-requires : goal.list_lane-requires
list_lane-requires c =
    let f = code_lane c.args.high.now c.args.low.now c.args.code c.args.a c.args.b in
    entry_next f (λ _. f c.loop-j.j) c.loop-j.j 1 4 (omega (arith, c.loop-j-test.true)) c.loop-j.invariant.0 c.loop-j.invariant.1 (λ i h. let e : c.loop-j.j + i ≡ c.loop-j.j = omega arith in ap f e) c.requires.0

pub loop-j-preserved : goal.loop-j-preserved
loop-j-preserved c =
    let f = code_lane c.args.high.now c.args.low.now c.args.code c.args.a c.args.b in
    let d = c.list_lane.ensures in
    let p = c.loop-j.invariant.0 in
    let q = c.loop-j.invariant.1 in
    (d.0 ∙ (λ i. put (f c.loop-j.j) (p i) (q i)) ∙ sym (placed_next f c.args.entries.now c.args.ends.now c.loop-j.j), d.1 ∙ ap (bump 1 (f c.loop-j.j)) q ∙ sym (bumped_next 1 f c.args.ends.now c.loop-j.j))
