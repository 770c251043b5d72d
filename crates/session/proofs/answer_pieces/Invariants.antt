use Rattle.std.specs.Prelude.{◌≡◌}
use Rattle.basics.proofs.Words.{true, false, length, take}
use Rattle.session.specs.Output.{Reads}
use Rattle.session.proofs.answer_pieces.Given as goal

abbrev pub invariant-loop : goal.invariant-loop
invariant-loop g l = Reads l.card (take l.held l.initial.line) l.initial.so_far l.line l.bytes l.so_far true
    × (length l.line ≡ 201)
    × (length l.piece ≡ 4096)
    × (l.so_far.past ≡ false)
    × (length l.out ≡ length l.initial.out)
