use Rattle.std.specs.Prelude.{◌+◌}
use Rattle.basics.proofs.Words.{sym, ◌∙◌, ap, ℕ, get_or, set}
use Rattle.insertions.specs.Lanes.{lane_of}
use Rattle.insertions.proofs.Lanes.{bump_moves, bump_stays}
use Rattle.insertions.proofs.count_lane.Goals as goal

pub returns-then-moves : goal.returns-then-moves
returns-then-moves c =
    let ns = c.args.ends.now in
    ap (λ (n : ℕ). set ns (n + 2) (get_or ns (n + 2) 0 + 1)) c.list_of-at.ensures.0 ∙ sym (bump_moves 2 (lane_of c.args.code c.args.step 0) ns (sym c.moves.ensures ∙ c.if-moves.true))

pub returns-else-moves : goal.returns-else-moves
returns-else-moves c = sym (bump_stays 2 (lane_of c.args.code c.args.step 0) c.args.ends.now (sym c.moves.ensures ∙ c.if-moves.false))
