use Rattle.std.specs.Prelude.{◌≡◌}
use Rattle.basics.proofs.Words.{sym, ◌∙◌, ap, true, false, ℕ, member, no_member}
use Rattle.machine.specs.Machine.{takes}
use Rattle.machine.specs.Laws.Partners.{out_partners}
use Rattle.machine.proofs.Arc.outputs_for.Goals as goal

pub returns-then-holds : goal.returns-then-holds
unfolding takes
returns-then-holds c x y i =
    let a = c.args.self in
    let e : member a.inputs x ≡ true = sym (c.holds.ensures x i) ∙ c.if-holds.true in
    rw e (ap (λ (n : ℕ). member n y) (c.of_kind.ensures x i) ∙ out_partners a.kind a.outputs x y)

pub returns-else-holds : goal.returns-else-holds
unfolding takes
returns-else-holds c x y i =
    let a = c.args.self in
    let e : member a.inputs x ≡ false = sym (c.holds.ensures x i) ∙ c.if-holds.false in
    rw (e, no_member y)
