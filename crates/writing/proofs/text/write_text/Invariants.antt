use Rattle.std.specs.Prelude.{◌≡◌, ◌+◌}
use Rattle.basics.proofs.Words.{length, drop, sets}
use Rattle.writing.proofs.text.write_text.Given as goal

abbrev pub invariant-loop-i : goal.invariant-loop-i
invariant-loop-i l = (length l.out ≡ length l.initial.out) × (sets l.out (l.at + l.i) (drop l.i l.text) ≡ sets l.initial.out l.at l.text)
