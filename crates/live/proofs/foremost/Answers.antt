use Rattle.std.specs.Prelude.{◌-◌, ◌+◌}
use Rattle.basics.proofs.Words.{sym, ◌∙◌, ap, arith, List, take, drop, left_at, left_none}
use Rattle.live.specs.declared.Row.{Row}
use Rattle.live.specs.Rows.{led}
use Rattle.live.specs.Steps.{best_from}
use Rattle.live.proofs.Places.{best_next, best_end, led_by}
use Rattle.live.proofs.foremost.Goals as goal

pub loop-row-preserved : goal.loop-row-preserved
loop-row-preserved c =
    let R = c.args.ranking.now in
    let later : List Row = take (c.args.count - 1) (drop 1 c.args.rows.now) in
    ap (λ (b : Row). best_from R b (drop (c.loop-row.row-index + 1) later)) c.better-best.ensures
    ∙ sym (best_next R c.loop-row.best (left_at later c.loop-row.row-index _ c.loop-row-test.true)) ∙ c.loop-row.invariant

pub returns : goal.returns
returns c =
    let R = c.args.ranking.now in
    let later : List Row = take (c.args.count - 1) (drop 1 c.args.rows.now) in
    ap led (sym (best_end R c.loop-row.best (left_none later c.loop-row.row-index (omega arith))) ∙ c.loop-row.invariant)
    ∙ led_by R c.args.count c.args.rows.now _ c.requires.1.0 c.requires.1.1
