use Rattle.std.specs.Prelude.{◌≡◌}
use Rattle.basics.proofs.Words.{sym, ◌∙◌, arith, eqb, occurrences, eqb-false, every_start, every_next}
use Rattle.refusals.proofs.Refusals.{passes_with, refuses_with}
use Rattle.ranking.specs.Lemmas.Rankings.{wrong_length, not_once, each_once}
use Rattle.ranking.proofs.rankings.check_ranking.Goals as goal

pub returns-then-ranking-from : goal.returns-then-ranking-from
returns-then-ranking-from c =
    sym (refuses_with 7 (wrong_length c.args.machines c.args.ranking.now (λ e. c.if-ranking-from.true (e ∙ sym c.from.ensures))))

pub loop-machine-init : goal.loop-machine-init
loop-machine-init c = (omega arith, omega arith, every_start (λ m. eqb (occurrences m c.args.ranking.now) 1))

pub returns-then-not-stands_once : goal.returns-then-not-stands_once
returns-then-not-stands_once c =
    let m = c.loop-machine.machine in
    let e = c.stands_once.ensures in
    sym (refuses_with 7 (not_once c.args.machines c.args.ranking.now m c.loop-machine-test.true (eqb-false (occurrences m c.args.ranking.now) 1 (sym e ∙ c.if-not-stands_once.true))))

pub loop-machine-preserved : goal.loop-machine-preserved
loop-machine-preserved c =
    let m = c.loop-machine.machine in
    let e = c.stands_once.ensures in (
      omega arith,
      omega arith,
      every_next (λ m. eqb (occurrences m c.args.ranking.now) 1) m c.loop-machine.invariant.2 (sym e ∙ c.if-not-stands_once.false),
    )

pub returns : goal.returns
returns c =
    let e : c.loop-machine.machine ≡ c.args.machines = omega arith in
    sym (passes_with 7 (each_once c.args.machines c.args.ranking.now (omega arith) (rw e at c.loop-machine.invariant.2)))
