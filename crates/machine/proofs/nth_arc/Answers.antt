use Rattle.std.specs.Prelude.{◌+◌, ◌*◌}
use Rattle.basics.specs.Words.{sym, ap, ◌∙◌, ℕ, arith}
use Rattle.machine.specs.Part.{state_count, arc_count, arc_at}
use Rattle.machine.specs.Accepted.{shape_facts}
use Rattle.machine.specs.Laws.Arcs.{arc_at_lem}
use Rattle.machine.proofs.nth_arc.Goals as goal

pub read_arc-requires : goal.read_arc-requires
read_arc-requires c = omega (arith, shape_facts _ c.requires.0)

pub returns : goal.returns
returns c d =
    let part = c.args.part.now in
    arc_at_lem part (2 + state_count part) (arc_count part) c.args.i c.requires.2 d
    ∙ ap (λ (n : ℕ). arc_at part (2 + n + 20 * c.args.i)) (sym c.requires.1)
    ∙ sym c.read_arc.ensures
