use Rattle.std.specs.Prelude.{◌+◌, ◌<◌}
use Rattle.basics.proofs.Words.{sym, ◌∙◌, ap, ℕ, arith, length, get_or, set}
use Rattle.insertions.specs.Lanes.{lane_of, entry_of}
use Rattle.insertions.proofs.Lanes.{bump_moves, bump_stays, put_moves, put_stays, lane_room}
use Rattle.insertions.proofs.list_lane.Goals as goal

-- the place behind the list is there
place : (c : goal.After-from-unread)
    → (get_or c.args.ends.now (c.list_of-at.result + 1) 0 < length c.args.entries.now)
    × (get_or c.args.ends.now (c.list_of-at.result + 1) 0 < 65535)
place c =
    let at_list_of = c.list_of-at in
    lane_room (lane_of c.args.code c.args.step c.args.rest) c.requires (sym c.moves.ensures ∙ c.if-moves.true) at_list_of.result at_list_of.ensures.0

pub bounds-entries-from : goal.bounds-entries-from
bounds-entries-from c = omega (arith, c.from.ensures, (place c).0)

pub overflow_add-ends : goal.overflow_add-ends
overflow_add-ends c = omega (arith, (place c).1)

pub returns-then-moves : goal.returns-then-moves
returns-then-moves c =
    let x = lane_of c.args.code c.args.step c.args.rest in
    let es = c.args.entries.now in
    let ns = c.args.ends.now in
    let t = sym c.moves.ensures ∙ c.if-moves.true in
    let e = c.list_of-at.ensures.0 in
    let d = c.entry_of.ensures in
    let p = c.from.ensures in
    ((λ i. set es (p i) (d i)) ∙ ap (λ (n : ℕ). set es (get_or ns (n + 1) 0) (entry_of c.args.code c.args.step c.args.rest)) e ∙ sym (put_moves x es ns t), ap (λ (n : ℕ). set ns (n + 1) (get_or ns (n + 1) 0 + 1)) e ∙ sym (bump_moves 1 x ns t))

pub returns-else-moves : goal.returns-else-moves
returns-else-moves c =
    let x = lane_of c.args.code c.args.step c.args.rest in
    let t = sym c.moves.ensures ∙ c.if-moves.false in
    (sym (put_stays x c.args.entries.now c.args.ends.now t), sym (bump_stays 1 x c.args.ends.now t))
