use Rattle.basics.proofs.Words.{ap, ◌∙◌, arith, eqb, eq-eqb, ne_eqb}
use Rattle.machine.specs.declared.Arc.{Arc}
use Rattle.machine.specs.Part.{arcs_of}
use Rattle.joined.proofs.Rest.{all_go_on, all_stop, all_end}
use Rattle.joined.proofs.Parts.{no_arc, arcs_length}
use Rattle.joined.proofs.arcs_are_free.Goals as goal

pub returns-then-arc-ne0 : goal.returns-then-arc-ne0
returns-then-arc-ne0 c =
    let part = c.args.part.now in
    all_stop (λ (a : Arc). eqb a.marks 0) (arcs_of part) c.loop-i.i _ c.loop-i.invariant.2 no_arc (omega (arith, arcs_length part))
    (ap (λ (a : Arc). eqb a.marks 0) (c.nth_arc-arc.ensures no_arc) ∙ ne_eqb _ 0 c.if-arc-ne0.true)

pub loop-i-preserved : goal.loop-i-preserved
loop-i-preserved c =
    let part = c.args.part.now in (
      c.loop-i.invariant.0,
      omega arith,
      all_go_on (λ (a : Arc). eqb a.marks 0) (arcs_of part) c.loop-i.i _ c.loop-i.invariant.2 no_arc (omega (arith, arcs_length part))
          (ap (λ (a : Arc). eqb a.marks 0) (c.nth_arc-arc.ensures no_arc) ∙ eq-eqb _ 0 c.if-arc-ne0.false),
    )

pub returns : goal.returns
returns c =
    let part = c.args.part.now in
    all_end (λ (a : Arc). eqb a.marks 0) (arcs_of part) c.loop-i.i _ c.loop-i.invariant.2 (omega (arith, arcs_length part))
