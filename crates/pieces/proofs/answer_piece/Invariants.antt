use Rattle.std.specs.Prelude.{◌≡◌, ◌-◌, ◌≤◌}
use Rattle.basics.proofs.Words.{false, [], length, take, drop}
use Rattle.lines.specs.Taking.{ended_lines, held_after}
use Rattle.lesson.specs.Tally.{lines_tally, Fits}
use Rattle.pieces.proofs.answer_piece.Given as goal

abbrev pub invariant-loop-whole : goal.invariant-loop-whole
invariant-loop-whole g l = (l.at ≤ length l.piece)
    × (l.length ≤ 201)
    × (length l.line ≡ 201)
    × (held_after (take l.length l.line) (drop l.at l.piece) ≡ held_after (take l.held l.initial.line) l.piece)
    × Fits l.so_far
    × (l.so_far.past ≡ false)
    × (lines_tally l.card l.so_far (ended_lines (take l.length l.line) (drop l.at l.piece)) ≡ lines_tally l.card l.initial.so_far (ended_lines (take l.held l.initial.line) l.piece))
    × (length l.out ≡ length l.initial.out)

abbrev pub decreases-loop-whole : goal.decreases-loop-whole
decreases-loop-whole g l = length l.piece - l.at
