use Rattle.std.specs.Prelude.{◌≡◌, ◌+◌, ◌-◌, ◌*◌, ◌^◌}
use Rattle.machine.specs.declared.Pair.{Pair}
use Rattle.machine.specs.Machine.{step_among}
use Rattle.machine.specs.Part.{arc_count, arcs_at, arcs_of}
use Rattle.machine.proofs.Position.step.Given as goal

abbrev pub invariant-loop-i : goal.invariant-loop-i
invariant-loop-i l =
    (pair : Pair) → l.input ≡ 2 ^ pair.input → l.output ≡ 2 ^ pair.output → step_among (arcs_at l.part (l.first + 20 * l.i) (arc_count l.part - l.i)) l.state pair ≡ step_among (arcs_of l.part) l.state pair
