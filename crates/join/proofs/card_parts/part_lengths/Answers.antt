use Rattle.basics.proofs.Words.{[], ℕ, arith, length, get_or, length-set}
use Rattle.card.specs.Layout.{parts_of}
use Rattle.join.specs.JoinedCard.{joined_parts}
use Rattle.join.proofs.Lengths.{stored}
use Rattle.join.proofs.CardParts.{second_in, few_machines, lengths_told}
use Rattle.join.proofs.card_parts.part_lengths.Goals as goal

pub overflow_sub-machines : goal.overflow_sub-machines
overflow_sub-machines c = omega (arith, c.machine_count-machines.ensures, second_in c.args.card.now c.args.lower c.args.other c.requires.0)

pub bounds-lengths-i : goal.bounds-lengths-i
bounds-lengths-i c = omega (arith, c.machine_count-machines.ensures, few_machines c.args.card.now c.args.lower c.args.other c.requires.0)

pub loop-i-preserved : goal.loop-i-preserved
loop-i-preserved c =
    let P = joined_parts c.args.lower c.args.other (parts_of c.args.card.now) in
    let l = c.loop-i.lengths in
    let i = c.loop-i.i in
    let room = few_machines c.args.card.now c.args.lower c.args.other c.requires.0 in (
      simp length-set c.loop-i.invariant.0,
      omega arith,
      λ n h. stored l i _ (λ (m : ℕ). length (get_or P m [])) (omega (arith, c.machine_count-machines.ensures, room, c.loop-i.invariant.0)) c.loop-i.invariant.2 c.part_length.ensures.0 n (omega (arith, h)),
    )

pub returns : goal.returns
returns c =
    (c.loop-i.invariant.0, lengths_told c.args.card.now c.args.lower c.args.other c.requires.0 c.loop-i.lengths c.loop-i.invariant.0 (λ n h. c.loop-i.invariant.2 n (omega (arith, h, c.machine_count-machines.ensures))))
