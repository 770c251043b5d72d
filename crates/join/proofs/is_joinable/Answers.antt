use Rattle.std.specs.Prelude.{◌≡◌, ◌||◌}
use Rattle.basics.proofs.Words.{sym, ap, ap₂, subst, ◌∙◌, Bool, false, List, ℕ, eqb, leb}
use Rattle.machine.specs.Machine.{no_machine}
use Rattle.machine.specs.Part.{machine_of}
use Rattle.card.specs.Layout.{machine_count}
use Rattle.card.specs.Laws.Machines.{machine_at_lem}
use Rattle.join.specs.JoinedMachine.{markless}
use Rattle.join.specs.Laws.Joinable.{TwoMachines}
use Rattle.join.proofs.Answers.{shape_in, not_joinable, two_machines, marks_decide}
use Rattle.join.proofs.is_joinable.Goals as goal

-- two different machines of the card
two : (card : List ℕ) (K a b : ℕ) → K ≡ machine_count card → (eqb a b || leb K a || leb K b) ≡ false → TwoMachines (machine_count card) a b
two card K a b e f = subst (λ (n : ℕ). TwoMachines n a b) e (two_machines K a b f)

pub returns-then-first-second : goal.returns-then-first-second
returns-then-first-second c =
    not_joinable c.args.card.now c.machine_count-machines.result c.args.first c.args.second c.machine_count-machines.ensures c.if-first-second.true

pub has_no_marks-requires : goal.has_no_marks-requires
has_no_marks-requires c =
    rw c.part.ensures (shape_in c.args.card.now c.requires c.args.first (two c.args.card.now _ c.args.first c.args.second c.machine_count-machines.ensures c.if-first-second.false).first)

pub has_no_marks-requires-2 : goal.has_no_marks-requires-2
has_no_marks-requires-2 c =
    rw c.part-2.ensures (shape_in c.args.card.now c.requires c.args.second (two c.args.card.now _ c.args.first c.args.second c.machine_count-machines.ensures c.if-first-second.false).second)

pub returns : goal.returns
returns c =
    let card = c.args.card.now in
    let a = c.args.first in
    let b = c.args.second in
    let w = two card _ a b c.machine_count-machines.ensures c.if-first-second.false in
    ap₂ (λ (x y : Bool). x || y)
    (c.has_no_marks.ensures ∙ ap (λ (l : List ℕ). markless (machine_of l)) c.part.ensures ∙ ap markless (sym (machine_at_lem card a w.first no_machine)))
    (c.has_no_marks-2.ensures ∙ ap (λ (l : List ℕ). markless (machine_of l)) c.part-2.ensures ∙ ap markless (sym (machine_at_lem card b w.second no_machine)))
    ∙ marks_decide card a b w
