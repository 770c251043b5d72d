use Rattle.std.specs.Prelude.{◌≡◌, ◌+◌, ◌-◌, ◌*◌}
use Rattle.basics.proofs.Words.{all_of}
use Rattle.machine.specs.Part.{arc_count, arcs_at, sound_arc, sound_arcs}
use Rattle.part_check.proofs.check_arcs.Given as goal

abbrev pub invariant-loop-i : goal.invariant-loop-i
invariant-loop-i l = all_of (sound_arc l.symbols l.states) (arcs_at l.part (l.first + 20 * l.i) (arc_count l.part - l.i)) ≡ sound_arcs l.symbols l.part
