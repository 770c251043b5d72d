use Rattle.std.specs.Prelude.{◌≡◌, ◌-◌, ◌<◌, ◌≤◌}
use Rattle.basics.proofs.Words.{sym, ap, ◌∙◌, List, map, ℕ, arith, length, take, length-take-le}
use Rattle.card.specs.Layout.{machine_count, parts_of}
use Rattle.join.specs.JoinedCard.{joined_parts}
use Rattle.join.specs.Writing.{CardJoins}
use Rattle.join.proofs.CardParts.{second_in, few_machines, card_length, total_length, card_small}
use Rattle.join.proofs.card_parts.new_card_length.Goals as goal

module _ (card : List ℕ) (i j : ℕ) (h : CardJoins card i j) {machines : ℕ} (e : machines ≡ machine_count card) where
  many : machines - 1 ≡ machine_count card - 1
  many = ap (λ (n : ℕ). n - 1) e

  facts : (1 < machine_count card) × (machine_count card ≤ 6)
  facts = (omega (arith, h.may.order, second_in card i j h), few_machines card i j h)

  -- the lengths handed on are the parts' lengths
  handed_on : (ns : List ℕ) → take (machine_count card - 1) ns ≡ map length (joined_parts i j (parts_of card)) → take (machines - 1) ns ≡ map length (joined_parts i j (parts_of card))
  handed_on ns f = ap (λ (n : ℕ). take n ns) many ∙ f

  as_many : (ns : List ℕ) → length ns ≡ 6 → length (take (machines - 1) ns) ≡ machines - 1
  as_many ns f = length-take-le (machines - 1) ns (omega (arith, many, facts, f))

pub overflow_sub-machines : goal.overflow_sub-machines
overflow_sub-machines c = omega (arith, c.machine_count-machines.ensures, facts c.args.card.now c.args.lower c.args.other c.requires c.machine_count-machines.ensures)

pub slice_bounds-lengths-end : goal.slice_bounds-lengths-end
slice_bounds-lengths-end c =
    omega (arith, c.machine_count-machines.ensures, facts c.args.card.now c.args.lower c.args.other c.requires c.machine_count-machines.ensures, c.part_lengths-lengths.ensures.0)

pub slice_bounds-sum-end : goal.slice_bounds-sum-end
slice_bounds-sum-end c = sym (as_many c.args.card.now c.args.lower c.args.other c.requires c.machine_count-machines.ensures c.part_lengths-lengths.result c.part_lengths-lengths.ensures.0)

pub overflow_add-result-2 : goal.overflow_add-result-2
overflow_add-result-2 c =
    let card = c.args.card.now in
    let i = c.args.lower in
    let j = c.args.other in
    let e = c.machine_count-machines.ensures in
    let ns = c.part_lengths-lengths.result in
    let small = card_small card i j c.requires (λ k. omega (arith, c.type_inv.card k)) in
    let sum = total_length card i j c.requires (take (c.machine_count-machines.result - 1) ns) (handed_on card i j c.requires e ns c.part_lengths-lengths.ensures.1) in
    omega (arith, e, facts card i j c.requires e, c.sum.ensures, sum, card_length card i j c.requires, small)

pub returns : goal.returns
returns c =
    let card = c.args.card.now in
    let i = c.args.lower in
    let j = c.args.other in
    let e = c.machine_count-machines.ensures in
    let ns = c.part_lengths-lengths.result in
    let sum = total_length card i j c.requires (take (c.machine_count-machines.result - 1) ns) (handed_on card i j c.requires e ns c.part_lengths-lengths.ensures.1) in
    omega (arith, e, c.sum.ensures, sum, card_length card i j c.requires)
