use Rattle.std.specs.Prelude.{◌+◌, ◌*◌}
use Rattle.basics.proofs.Words.{◌∙◌, ap, arith}
use Rattle.insertions.specs.Lanes.{bumped, placed}
use Rattle.insertions.specs.Tables.{code_lane, lanes_from}
use Rattle.insertions.proofs.Lanes.{bumped_start, placed_start, bumped_on, placed_on, equal_alike, entry_next}
use Rattle.insertions.proofs.Rows.{code_lanes, lanes_pre, code_next}
use Rattle.insertions.proofs.list_row.Goals as goal

pub loop-b-init : goal.loop-b-init
loop-b-init c =
    let f = lanes_from c.args.high.now c.args.low.now c.args.front c.args.back (c.args.a * c.args.back) in
    (placed_start f c.args.entries.now c.args.ends.now _ (omega arith), bumped_start 1 f c.args.ends.now _ (omega arith))

pub list_code-requires : goal.list_code-requires
list_code-requires c =
    let t = c.loop-b-test.true in
    let high = c.args.high.now in
    let low = c.args.low.now in
    let f = lanes_from high low c.args.front c.args.back (c.args.a * c.args.back) in
    let g = code_lane high low (c.args.a * c.args.back + c.loop-b.b) (c.args.a * 4) ((c.args.front + c.loop-b.b) * 4) in
    (entry_next f g (c.loop-b.b * 4) 4 (c.args.back * 4) (omega (arith, t)) c.loop-b.invariant.0 c.loop-b.invariant.1 (code_lanes high low c.args.front c.args.back c.args.a c.loop-b.b t) c.requires.0, lanes_pre c.requires.1 c.args.a c.loop-b.b c.requires.3 t, lanes_pre c.requires.2 c.args.a c.loop-b.b c.requires.3 t)

pub loop-b-preserved : goal.loop-b-preserved
loop-b-preserved c =
    let t = c.loop-b-test.true in
    let high = c.args.high.now in
    let low = c.args.low.now in
    let es = c.args.entries.now in
    let ns = c.args.ends.now in
    let f = lanes_from high low c.args.front c.args.back (c.args.a * c.args.back) in
    let g = code_lane high low (c.args.a * c.args.back + c.loop-b.b) (c.args.a * 4) ((c.args.front + c.loop-b.b) * 4) in
    let A = code_lanes high low c.args.front c.args.back c.args.a c.loop-b.b t in
    let d = c.list_code.ensures in
    let p = c.loop-b.invariant.0 in
    let q = c.loop-b.invariant.1 in
    let n = code_next c.loop-b.b in
    (d.0 ∙ (λ i. placed g 4 (p i) (q i)) ∙ placed_on f g es ns (c.loop-b.b * 4) 4 A ∙ (λ i. placed f (n i) es ns), d.1 ∙ ap (bumped 1 g 4) q ∙ bumped_on 1 f g ns (c.loop-b.b * 4) 4 (equal_alike f g (c.loop-b.b * 4) 4 A) ∙ (λ i. bumped 1 f (n i) ns))
