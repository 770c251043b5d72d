use Rattle.std.specs.Prelude.{◌*◌}
use Rattle.basics.proofs.Words.{refl, ◌∙◌, ap, [], ℕ, arith}
use Rattle.insertions.specs.Lanes.{bumped}
use Rattle.insertions.specs.Tables.{four_lane, lanes_from}
use Rattle.insertions.proofs.Lanes.{bumped_start, bumped_on, count_next}
use Rattle.insertions.proofs.Rows.{row_last, row_next}
use Rattle.insertions.proofs.count_four.Goals as goal

pub loop-a-init : goal.loop-a-init
loop-a-init c =
    bumped_start 2 (four_lane c.args.high.now [] c.args.front c.args.back) c.args.ends.now _ (omega arith)

pub count_row-requires : goal.count_row-requires
count_row-requires c =
    let t = c.loop-a-test.true in
    (count_next 2 (four_lane c.args.high.now [] c.args.front c.args.back) (c.loop-a.a * c.args.back * 4) (c.args.back * 4) (c.args.front * c.args.back * 4) (omega arith) (omega (arith, row_last c.requires.1 c.loop-a.a t)) c.loop-a.invariant c.requires.0, c.requires.1, t)

pub loop-a-preserved : goal.loop-a-preserved
loop-a-preserved c =
    let ns = c.args.ends.now in
    let f = four_lane c.args.high.now [] c.args.front c.args.back in
    let g = lanes_from c.args.high.now [] c.args.front c.args.back (c.loop-a.a * c.args.back) in
    c.count_row.ensures ∙ ap (bumped 2 g (c.args.back * 4)) c.loop-a.invariant ∙ bumped_on 2 f g ns (c.loop-a.a * c.args.back * 4) (c.args.back * 4) (λ j h. (refl, refl)) ∙ ap (λ (n : ℕ). bumped 2 f n ns) (row_next c.loop-a.a c.args.back)
