use Rattle.std.specs.Prelude.{◌≡◌, ◌&&◌, ◌*◌}
use Rattle.basics.specs.Words.{sym, ap, ap₂, ◌∙◌, List, ℕ, length, leb}
use Rattle.machine.specs.Machine.{state_count_of}
use Rattle.machine.specs.Part.{state_count, arcs_of, machine_of}
use Rattle.machine.specs.Accepted.{state_count_lem}
use Rattle.layout.specs.Layout.{part_of}
use Rattle.join.specs.JoinedMachine.{joined_arcs, joined_machine}
use Rattle.joined.specs.Laws.Crossed.{joined_states}
use Rattle.join.proofs.Answers.{shape_in, joined_arcs_lem}
use Rattle.join.proofs.fits_part.Goals as goal

pub state_count-requires : goal.state_count-requires
state_count-requires c = rw c.part-first.ensures (shape_in c.args.card.now c.requires.0 c.args.lower c.requires.1)

pub state_count-requires-2 : goal.state_count-requires-2
state_count-requires-2 c = rw c.part-second.ensures (shape_in c.args.card.now c.requires.0 c.args.other c.requires.2)

pub arc_count-requires : goal.arc_count-requires
arc_count-requires c =
    let card = c.args.card.now in
    (rw c.part-first.ensures (shape_in card c.requires.0 c.args.lower c.requires.1), rw c.part-second.ensures (shape_in card c.requires.0 c.args.other c.requires.2))

pub returns : goal.returns
returns c =
    let card = c.args.card.now in
    let p = part_of card c.args.lower in
    let q = part_of card c.args.other in
    let ep = c.part-first.ensures in
    let eq = c.part-second.ensures in
    let states : c.state_count.result * c.state_count-2.result ≡ state_count_of (joined_machine (machine_of p) (machine_of q)) =
    ap₂ (λ (x y : ℕ). x * y) (c.state_count.ensures ∙ ap state_count ep ∙ sym (state_count_lem p (shape_in card c.requires.0 c.args.lower c.requires.1))) (c.state_count-2.ensures ∙ ap state_count eq ∙ sym (state_count_lem q (shape_in card c.requires.0 c.args.other c.requires.2)))
    ∙ sym (joined_states (machine_of p) (machine_of q)) in
    let arcs : c.arc_count.result ≡ length (joined_machine (machine_of p) (machine_of q)).arcs =
    c.arc_count.ensures.0 ∙ ap₂ (λ (x y : List ℕ). length (joined_arcs (state_count y) (arcs_of x) (arcs_of y))) ep eq ∙ sym (joined_arcs_lem p q (shape_in card c.requires.0 c.args.other c.requires.2)) in
    ap₂ (λ (x y : ℕ). leb x 32 && leb y 255) states arcs
