use Rattle.std.specs.Prelude.{◌≡◌, ◌+◌, ◌*◌, ◌^◌}
use Rattle.basics.proofs.Words.{sym, arith, pow-suc, add-one}
use lib.Pow.{pow_mono}
use Rattle.ranking.specs.Lemmas.Conditions.{fewer_none, fewer_bound, fewer_grows, fewer_stays}
use Rattle.ranking.proofs.conditions.fewer_in.Goals as goal
use Rattle.ranking.proofs.conditions.fewer_in.Goals.{then-count, else-count}

pub loop-machine-init : goal.loop-machine-init
loop-machine-init c = (omega arith, omega arith, sym (fewer_none c.args.first.counts c.args.second.counts))

pub overflow_add-set : goal.overflow_add-set
overflow_add-set c =
    omega (arith, pow_mono {i = c.loop-machine.machine} {j = 5} (omega (arith, c.from-machine-end.ensures)), fewer_bound c.args.first.counts c.args.second.counts c.loop-machine.machine)

pub overflow_mul-bit : goal.overflow_mul-bit
overflow_mul-bit c =
    omega (arith, pow_mono {i = c.loop-machine.machine} {j = 5} (omega (arith, c.from-machine-end.ensures)))

pub loop-machine-preserved : goal.loop-machine-preserved
loop-machine-preserved c =
    let m = c.loop-machine.machine in
    let p : 2 ^ (m + 1) ≡ 2 ^ m * 2 = rw add-one (pow-suc 2 m) in
    let one = c.count.ensures in
    let other = c.count-in-loop-machine.ensures in
    (elim c.if-count.branch [ then-count w ↦ (omega (arith, c.from-machine-end.ensures), omega arith, omega (arith, c.from-machine-end.ensures, fewer_grows c.args.first.counts c.args.second.counts m (omega (arith, c.from-machine-end.ensures)))) | else-count w ↦ (omega (arith, c.from-machine-end.ensures), omega arith, omega (arith, c.from-machine-end.ensures, fewer_stays c.args.first.counts c.args.second.counts m (omega (arith, c.from-machine-end.ensures)))) ])

pub returns : goal.returns
returns c =
    let e : c.loop-machine.machine ≡ c.args.machines = omega (arith, c.from-machine-end.ensures) in
    rw e at c.loop-machine.invariant.2
