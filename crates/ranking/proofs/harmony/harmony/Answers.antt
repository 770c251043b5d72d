use Rattle.std.specs.Prelude.{◌≡◌}
use Rattle.basics.proofs.Words.{sym, ◌∙◌, ap, List, ℕ, arith, length, get_or, left_next, left_none}
use Rattle.ranking.specs.Lemmas.Rankings.{ranking_facts}
use Rattle.ranking.specs.Lemmas.Harmony.{harmony_end, harmony_better, harmony_worse, harmony_next}
use Rattle.ranking.proofs.harmony.harmony.Goals as goal

-- a count of the machine at the place
of_machine : (v : List ℕ) {n m k : ℕ} → n ≡ get_or v m 0 → m ≡ k → n ≡ get_or v k 0
of_machine v e q = e ∙ ap (λ (i : ℕ). get_or v i 0) q

pub count-one-requires : goal.count-one-requires
count-one-requires c =
    let r = c.args.ranking.now in
    omega (arith, c.from.ensures, (ranking_facts (length r) r c.requires.0).below c.loop-machine.machine-index (omega arith))

pub count-other-requires : goal.count-other-requires
count-other-requires c =
    let r = c.args.ranking.now in
    omega (arith, c.from.ensures, (ranking_facts (length r) r c.requires.0).below c.loop-machine.machine-index (omega arith))

pub returns-then-one-other : goal.returns-then-one-other
returns-then-one-other c =
    let one = of_machine c.args.first.counts c.count-one.ensures c.from.ensures in
    let other = of_machine c.args.second.counts c.count-other.ensures c.from-in-loop-machine.ensures in
    let n = left_next c.args.ranking.now c.loop-machine.machine-index (omega arith) in
    sym (harmony_better c.args.first.counts c.args.second.counts n (omega arith)) ∙ c.loop-machine.invariant.1

pub returns-then-other-one : goal.returns-then-other-one
returns-then-other-one c =
    let one = of_machine c.args.first.counts c.count-one.ensures c.from.ensures in
    let other = of_machine c.args.second.counts c.count-other.ensures c.from-in-loop-machine.ensures in
    let n = left_next c.args.ranking.now c.loop-machine.machine-index (omega arith) in
    sym (harmony_worse c.args.first.counts c.args.second.counts n (omega arith)) ∙ c.loop-machine.invariant.1

pub loop-machine-preserved : goal.loop-machine-preserved
loop-machine-preserved c =
    let one = of_machine c.args.first.counts c.count-one.ensures c.from.ensures in
    let other = of_machine c.args.second.counts c.count-other.ensures c.from-in-loop-machine.ensures in
    let n = left_next c.args.ranking.now c.loop-machine.machine-index (omega arith) in
    (omega arith, sym (harmony_next c.args.first.counts c.args.second.counts n (omega arith) (omega arith)) ∙ c.loop-machine.invariant.1)

pub returns : goal.returns
returns c =
    sym (harmony_end c.args.first.counts c.args.second.counts (left_none c.args.ranking.now c.loop-machine.machine-index (omega arith))) ∙ c.loop-machine.invariant.1
