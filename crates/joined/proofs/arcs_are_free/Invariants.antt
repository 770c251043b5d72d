use Rattle.std.specs.Prelude.{◌≡◌, ◌≤◌}
use Rattle.basics.proofs.Words.{drop, eqb, all_of}
use Rattle.machine.specs.Part.{arc_count, arcs_of}
use Rattle.joined.proofs.arcs_are_free.Given as goal

abbrev pub invariant-loop-i : goal.invariant-loop-i
invariant-loop-i l = (l.i-end ≡ arc_count l.part) × (l.i ≤ l.i-end) × (all_of (λ a. eqb a.marks 0) (drop l.i (arcs_of l.part)) ≡ all_of (λ a. eqb a.marks 0) (arcs_of l.part))
