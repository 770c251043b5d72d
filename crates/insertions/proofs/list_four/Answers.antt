use Rattle.std.specs.Prelude.{◌*◌}
use Rattle.basics.proofs.Words.{refl, ◌∙◌, ap, arith}
use Rattle.insertions.specs.Lanes.{bumped, placed}
use Rattle.insertions.specs.Tables.{four_lane, lanes_from}
use Rattle.insertions.proofs.Lanes.{bumped_start, placed_start, bumped_on, placed_on, entry_next}
use Rattle.insertions.proofs.Rows.{row_last, row_next}
use Rattle.insertions.proofs.list_four.Goals as goal

pub loop-a-init : goal.loop-a-init
loop-a-init c =
    let f = four_lane c.args.high.now c.args.low.now c.args.front c.args.back in
    (placed_start f c.args.entries.now c.args.ends.now _ (omega arith), bumped_start 1 f c.args.ends.now _ (omega arith))

pub list_row-requires : goal.list_row-requires
list_row-requires c =
    let t = c.loop-a-test.true in
    let f = four_lane c.args.high.now c.args.low.now c.args.front c.args.back in
    let g = lanes_from c.args.high.now c.args.low.now c.args.front c.args.back (c.loop-a.a * c.args.back) in
    (entry_next f g (c.loop-a.a * c.args.back * 4) (c.args.back * 4) (c.args.front * c.args.back * 4) (omega (arith, row_last c.requires.1 c.loop-a.a t)) c.loop-a.invariant.0 c.loop-a.invariant.1 (λ j h. refl) c.requires.0, c.requires.1, c.requires.2, t)

pub loop-a-preserved : goal.loop-a-preserved
loop-a-preserved c =
    let es = c.args.entries.now in
    let ns = c.args.ends.now in
    let f = four_lane c.args.high.now c.args.low.now c.args.front c.args.back in
    let g = lanes_from c.args.high.now c.args.low.now c.args.front c.args.back (c.loop-a.a * c.args.back) in
    let d = c.list_row.ensures in
    let p = c.loop-a.invariant.0 in
    let q = c.loop-a.invariant.1 in
    let n = row_next c.loop-a.a c.args.back in
    let m = c.args.back * 4 in
    let done = c.loop-a.a * c.args.back * 4 in
    (d.0 ∙ (λ i. placed g m (p i) (q i)) ∙ placed_on f g es ns done m (λ j h. refl) ∙ (λ i. placed f (n i) es ns), d.1 ∙ ap (bumped 1 g m) q ∙ bumped_on 1 f g ns done m (λ j h. (refl, refl)) ∙ (λ i. bumped 1 f (n i) ns))
