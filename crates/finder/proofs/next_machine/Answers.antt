use Rattle.std.specs.Prelude.{◌&&◌}
use Rattle.basics.proofs.Words.{ap₂, sym, ◌∙◌, Bool, not}
use Rattle.finder.specs.Finder.{conditions_of}
use Rattle.finder.proofs.Steps.{next_start, next_on, next_found}
use Rattle.finder.proofs.next_machine.Goals as goal

pub loop-machine-init : goal.loop-machine-init
loop-machine-init c = next_start _ _

pub returns-then-has-may_stand : goal.returns-then-has-may_stand
returns-then-has-may_stand c =
    let cs = conditions_of c.args.conditions.now in
    sym (next_found cs c.args.placed c.args.machines c.loop-machine.machine c.loop-machine-test.true c.loop-machine.invariant (ap₂ (λ (a b : Bool). not a && b) (sym c.has.ensures) (sym c.may_stand.ensures) ∙ c.if-has-may_stand.true))

pub loop-machine-preserved : goal.loop-machine-preserved
loop-machine-preserved c =
    let cs = conditions_of c.args.conditions.now in
    next_on cs c.args.placed c.loop-machine.machine c.loop-machine.invariant (ap₂ (λ (a b : Bool). not a && b) (sym c.has.ensures) (sym c.may_stand.ensures) ∙ c.if-has-may_stand.false)
