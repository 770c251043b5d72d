use Rattle.basics.proofs.Words.{sym, ◌∙◌, ap, arith, rules}
use Rattle.finder.specs.Steps.{next_of}
use Rattle.finder.proofs.Sets.{member_with}
use Rattle.finder.proofs.Pairs.{even_list, demotion_sound}
use Rattle.finder.specs.Finder.{conditions_of, finding_of}
use Rattle.finder.proofs.Steps.{filled_start, filled_next, filled_stops, filled_answer, next_below}
use Rattle.finder.proofs.rank.Goals as goal

pub loop-place-init : goal.loop-place-init
loop-place-init c = filled_start _ _

pub next_machine-requires : goal.next_machine-requires
next_machine-requires c =
    (even_list c.args.machines c.args.conditions.now c.requires.1, search rules)

pub returns-in_default : goal.returns-in_default
returns-in_default c =
    sym (ap (finding_of c.args.machines) (demotion_sound c.args.machines c.args.conditions.now c.requires.0 c.requires.1 ∙ filled_stops c.loop-place.invariant (omega arith) (sym c.next_machine.ensures ∙ ap next_of c.in_default.is)))

pub overflow_shl-placed : goal.overflow_shl-placed
overflow_shl-placed c =
    omega (arith, next_below c.args.machines (conditions_of c.args.conditions.now) _ (sym c.next_machine.ensures ∙ ap next_of c.in-Some.is))

pub loop-place-preserved : goal.loop-place-preserved
loop-place-preserved c =
    let m = c.in-Some.machine in
    rw c.from.ensures (filled_next c.loop-place.invariant c.requires.0 (omega arith) m _ (sym c.next_machine.ensures ∙ ap next_of c.in-Some.is)
    (λ n. member_with c.loop-place.placed m n (omega (arith, next_below c.args.machines (conditions_of c.args.conditions.now) _ (sym c.next_machine.ensures ∙ ap next_of c.in-Some.is)))))

pub returns : goal.returns
returns c =
    filled_answer c.loop-place.invariant (omega arith) (demotion_sound c.args.machines c.args.conditions.now c.requires.0 c.requires.1)
