use Rattle.std.specs.Prelude.{◌≡◌, ◌++◌, ◌+◌, ◌*◌, ◌-◌, ◌<◌, ◌≤◌}
use Rattle.basics.specs.Words.{sym, ap, ◌∙◌, List, map, ℕ, arith, length, take, drop, length-take-le}
use Rattle.card.specs.Layout.{machine_count, parts_of}
use Rattle.card.specs.Packing.{table}
use Rattle.join.specs.JoinedCard.{joined_parts}
use Rattle.join.specs.Writing.{CardJoins}
use Rattle.join.proofs.CardParts.{second_in, few_machines, card_length, total_length, card_small, card_placed}
use Rattle.join.proofs.card_parts.write_card.Goals as goal

module _ (card : List ℕ) (i j : ℕ) (h : CardJoins card i j) {machines : ℕ} (e : machines ≡ machine_count card) where
  many : machines - 1 ≡ machine_count card - 1
  many = ap (λ (n : ℕ). n - 1) e

  facts : (1 < machine_count card) × (machine_count card ≤ 6)
  facts = (omega (arith, h.may.order, second_in card i j h), few_machines card i j h)

  -- the lengths handed on are the parts' lengths
  handed_on : (ns : List ℕ) → take (machine_count card - 1) ns ≡ map length (joined_parts i j (parts_of card)) → take (machines - 1) ns ≡ map length (joined_parts i j (parts_of card))
  handed_on ns f = ap (λ (n : ℕ). take n ns) many ∙ f

  as_many : (ns : List ℕ) → length ns ≡ 6 → length (take (machines - 1) ns) ≡ machines - 1
  as_many ns f = length-take-le (machines - 1) ns (omega (arith, many, facts, f))

pub overflow_sub-machines : goal.overflow_sub-machines
overflow_sub-machines c = omega (arith, c.machine_count-machines.ensures, facts c.args.card.now c.args.lower c.args.other c.requires.0 c.machine_count-machines.ensures)

pub slice_bounds-lengths-end : goal.slice_bounds-lengths-end
slice_bounds-lengths-end c =
    omega (arith, c.machine_count-machines.ensures, facts c.args.card.now c.args.lower c.args.other c.requires.0 c.machine_count-machines.ensures, c.part_lengths-lengths.ensures.0)

pub slice_bounds-write_table-end : goal.slice_bounds-write_table-end
slice_bounds-write_table-end c = sym (as_many c.args.card.now c.args.lower c.args.other c.requires.0 c.machine_count-machines.ensures c.part_lengths-lengths.result c.part_lengths-lengths.ensures.0)

pub write_table-requires : goal.write_table-requires
write_table-requires c =
    let card = c.args.card.now in
    let i = c.args.lower in
    let j = c.args.other in
    let e = c.machine_count-machines.ensures in
    let ns = c.part_lengths-lengths.result in
    let size = as_many card i j c.requires.0 e ns c.part_lengths-lengths.ensures.0 in
    let few = facts card i j c.requires.0 e in
    let small = card_small card i j c.requires.0 (λ k. omega (arith, c.type_inv.card k)) in
    let whole = card_length card i j c.requires.0 in
    let sum = total_length card i j c.requires.0 (take (c.machine_count-machines.result - 1) ns) (handed_on card i j c.requires.0 e ns c.part_lengths-lengths.ensures.1) in
    (omega (arith, size, e, few), omega (arith, size, e, whole, c.requires.1), omega (arith, size, e, whole, sum, small))

pub returns : goal.returns
returns c =
    let card = c.args.card.now in
    let i = c.args.lower in
    let j = c.args.other in
    let ns = take (c.machine_count-machines.result - 1) c.part_lengths-lengths.result in
    card_placed card i j c.requires.0 c.args.target.now c.write_table.new.target c.write_parts.new.target ns (handed_on card i j c.requires.0 c.machine_count-machines.ensures c.part_lengths-lengths.result c.part_lengths-lengths.ensures.1) c.requires.1
    (c.write_table.ensures ∙ ap (λ (n : ℕ). table n ns ++ drop (2 + 4 * length ns) c.args.target.now) c.symbol_count.ensures)
    c.write_parts.ensures
