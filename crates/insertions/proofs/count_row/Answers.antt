use Rattle.std.specs.Prelude.{◌+◌, ◌*◌}
use Rattle.basics.proofs.Words.{◌∙◌, ap, [], ℕ, arith}
use Rattle.insertions.specs.Lanes.{bumped}
use Rattle.insertions.specs.Tables.{code_lane, lanes_from}
use Rattle.insertions.proofs.Lanes.{bumped_start, bumped_on, equal_alike, count_next}
use Rattle.insertions.proofs.Rows.{code_lanes, lanes_pre, code_next}
use Rattle.insertions.proofs.count_row.Goals as goal

pub loop-b-init : goal.loop-b-init
loop-b-init c = bumped_start 2 (lanes_from c.args.high.now [] c.args.front c.args.back (c.args.a * c.args.back)) c.args.ends.now _ (omega arith)

pub count_code-requires : goal.count_code-requires
count_code-requires c =
    let t = c.loop-b-test.true in
    (count_next 2 (lanes_from c.args.high.now [] c.args.front c.args.back (c.args.a * c.args.back)) (c.loop-b.b * 4) 4 (c.args.back * 4) (omega arith) (omega (arith, t)) c.loop-b.invariant c.requires.0, lanes_pre c.requires.1 c.args.a c.loop-b.b c.requires.2 t)

pub loop-b-preserved : goal.loop-b-preserved
loop-b-preserved c =
    let t = c.loop-b-test.true in
    let high = c.args.high.now in
    let ns = c.args.ends.now in
    let f = lanes_from high [] c.args.front c.args.back (c.args.a * c.args.back) in
    let g = code_lane high [] (c.args.a * c.args.back + c.loop-b.b) (c.args.a * 4) ((c.args.front + c.loop-b.b) * 4) in
    c.count_code.ensures ∙ ap (bumped 2 g 4) c.loop-b.invariant ∙ bumped_on 2 f g ns (c.loop-b.b * 4) 4 (equal_alike f g (c.loop-b.b * 4) 4 (code_lanes high [] c.args.front c.args.back c.args.a c.loop-b.b t)) ∙ ap (λ (n : ℕ). bumped 2 f n ns) (code_next c.loop-b.b)
