use Rattle.std.specs.Prelude.{◌≡◌}
use Rattle.basics.proofs.Words.{sym, ap, ℕ, arith, eqb, occurrences, ne_eqb, left_next, left_none, occurs_none, occurs_here, occurs_later}
use Rattle.ranking.proofs.rankings.stands_once.Goals as goal
use Rattle.ranking.proofs.rankings.stands_once.Goals.{then-other-machine+else-count-eq1, else-other-machine}

pub returns-then-count-eq1 : goal.returns-then-count-eq1
returns-then-count-eq1 c =
    let n = left_next c.args.list.now c.loop-other.other-index (omega arith) in
    let h = occurs_here {n = c.args.machine} n c.if-other-machine.true in
    sym (ne_eqb (occurrences c.args.machine c.args.list.now) 1 (λ o. omega (arith, h, o)))

pub loop-other-preserved : goal.loop-other-preserved
loop-other-preserved c =
    let n = left_next c.args.list.now c.loop-other.other-index (omega arith) in
    (elim c.if-other-machine.branch [ then-other-machine+else-count-eq1 w ↦ (omega arith, omega arith, omega (arith, occurs_here {n = c.args.machine} n w.if-other-machine.true)) | else-other-machine w ↦ (omega arith, omega arith, omega (arith, occurs_later {n = c.args.machine} n w.if-other-machine.false)) ])

pub returns : goal.returns
returns c =
    let e : c.loop-other.count ≡ occurrences c.args.machine c.args.list.now = omega (arith, occurs_none c.args.machine (left_none c.args.list.now c.loop-other.other-index (omega arith))) in
    ap (λ (n : ℕ). eqb n 1) e
