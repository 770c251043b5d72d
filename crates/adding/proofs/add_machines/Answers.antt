use Rattle.std.specs.Prelude.{◌≡◌, ◌-◌}
use Rattle.basics.proofs.Words.{refl, ◌∙◌, suc, arith, mul_comm}
use Rattle.product.specs.Laws.Nodes.{product_positive}
use Rattle.adding.specs.Cells.{high_at, low_at}
use Rattle.adding.proofs.Filling.{reached_start, place_enough, reached_next, sums_start, sums_next, sums_end, codes_few, machine_pre}
use Rattle.adding.proofs.add_machines.Goals as goal

pub begin-requires : goal.begin-requires
begin-requires c =
    omega (arith, c.requires.high_room, product_positive c.args.counts.now c.requires.some)

pub begin-requires-2 : goal.begin-requires-2
begin-requires-2 c =
    omega (arith, c.requires.low_room, product_positive c.args.counts.now c.requires.some)

pub loop-m-init : goal.loop-m-init
loop-m-init c = (
  reached_start c.requires.enough,
  sums_start (high_at c.args.steps.now c.args.weights.now c.args.width) c.args.four c.args.counts.now c.args.end c.begin.ensures.1,
  sums_start (low_at c.args.steps.now c.args.weights.now c.args.width) c.args.four c.args.counts.now c.args.end c.begin-2.ensures.1,
  refl,
  refl,
)

pub overflow_sub-place : goal.overflow_sub-place
overflow_sub-place c =
    place_enough c.requires.enough c.loop-m.invariant.0 (c.loop-m.m - 1) (omega (arith, c.loop-m-test.true)) _ c.index-states.ensures.0

pub add_machine-requires : goal.add_machine-requires
add_machine-requires c =
    let i = c.loop-m.invariant in
    let eh = i.3 ∙ c.begin.ensures.0 in
    let el = i.4 ∙ c.begin-2.ensures.0 in
    let m = c.loop-m.m - 1 in
    let t : c.loop-m.m ≡ suc m = omega (arith, c.loop-m-test.true) in
    let is = c.index-states.ensures.0 in
    machine_pre c.requires eh el i.0 i.1 i.2 m t _ is

pub overflow_mul-codes : goal.overflow_mul-codes
overflow_mul-codes c =
    let i = c.loop-m.invariant in
    let eh = i.3 ∙ c.begin.ensures.0 in
    let el = i.4 ∙ c.begin-2.ensures.0 in
    let m = c.loop-m.m - 1 in
    let t : c.loop-m.m ≡ suc m = omega (arith, c.loop-m-test.true) in
    let is = c.index-states.ensures.0 in
    omega (arith, codes_few c.requires eh el i.0 i.1 i.2 m t _ is, mul_comm c.loop-m.codes c.index-states.result)

pub loop-m-preserved : goal.loop-m-preserved
loop-m-preserved c =
    let i = c.loop-m.invariant in
    let eh = i.3 ∙ c.begin.ensures.0 in
    let el = i.4 ∙ c.begin-2.ensures.0 in
    let m = c.loop-m.m - 1 in
    let t : c.loop-m.m ≡ suc m = omega (arith, c.loop-m-test.true) in
    let is = c.index-states.ensures.0 in (
      reached_next c.requires.enough i.0 m t _ is,
      sums_next c.requires.enough i.0 m t _ is (high_at c.args.steps.now c.args.weights.now c.args.width) c.requires.some i.1 c.add_machine.ensures.highs,
      sums_next c.requires.enough i.0 m t _ is (low_at c.args.steps.now c.args.weights.now c.args.width) c.requires.some i.2 c.add_machine.ensures.lows,
      c.add_machine.ensures.highs.size ∙ i.3,
      c.add_machine.ensures.lows.size ∙ i.4,
    )

pub returns : goal.returns
returns c =
    let i = c.loop-m.invariant in
    record { highs = sums_end _ i.0 i.1 c.loop-m-test.false; lows = sums_end _ i.0 i.2 c.loop-m-test.false }
