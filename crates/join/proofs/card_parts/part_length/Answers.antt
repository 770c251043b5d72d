use Rattle.std.specs.Prelude.{◌≡◌, ◌+◌, ◌*◌, ◌<◌, ◌≤◌}
use Rattle.basics.specs.Words.{sym, ap, ap₂, ◌∙◌, List, [], ℕ, arith, length, get_or}
use Rattle.machine.specs.Part.{state_count}
use Rattle.layout.specs.Layout.{part_of}
use Rattle.card.specs.Layout.{machine_count, parts_of}
use Rattle.join.specs.JoinedCard.{joined_part, joined_parts}
use Rattle.join.specs.Writing.{CardJoins, JoinedArcCount, old_number}
use Rattle.joined.proofs.Parts.{few_states_lem, few_arcs, joined_length}
use Rattle.join.proofs.CardParts.{is_accepted, first_in, second_in, few_machines, shape_of, parts_join, new_here, new_other, other_length}
use Rattle.join.proofs.card_parts.part_length.Goals as goal

module _ (card : List ℕ) (i j : ℕ) (h : CardJoins card i j) where
  -- the states of the joined machine
  count : {m n : ℕ} {p q : List ℕ} → m ≡ state_count p → n ≡ state_count q → p ≡ part_of card i → q ≡ part_of card j → m * n ≡ state_count (part_of card i) * state_count (part_of card j)
  count a b ep eq = ap₂ (λ (m n : ℕ). m * n) (a ∙ ap state_count ep) (b ∙ ap state_count eq)

  -- its size
  size : {m n : ℕ} {p q : List ℕ} (arcs : ℕ) → m ≡ state_count p → n ≡ state_count q → p ≡ part_of card i → q ≡ part_of card j → JoinedArcCount card i j arcs → (m * n ≤ 32) × (arcs ≤ 255)
  size arcs a b ep eq e =
      let w = parts_join card i j h in
      (omega (arith, count a b ep eq, few_states_lem (part_of card i) (part_of card j) w), omega (arith, e, few_arcs (part_of card i) (part_of card j) w))

  -- the old part's number
  in_card : (k : ℕ) {r : ℕ} → (k ≡ i → ⊥) → k + 1 < machine_count card → r ≡ old_number j k → (r < machine_count card) × (get_or (joined_parts i j (parts_of card)) k [] ≡ part_of card r)
  in_card k n hk e =
      let w = new_other card i j h k n hk in
      (omega (arith, e, w.0), w.1 ∙ ap (part_of card) (sym e))

pub part-second-requires : goal.part-second-requires
part-second-requires c = (c.requires.0.accepted, second_in c.args.card.now c.args.lower c.args.other c.requires.0)

pub state_count-requires : goal.state_count-requires
state_count-requires c =
    let card = c.args.card.now in
    let h = c.requires.0 in
    rw c.part-first.ensures (shape_of card c.args.lower c.args.other h c.args.lower (first_in card c.args.lower c.args.other h))

pub state_count-requires-then-i-lower : goal.state_count-requires-then-i-lower
state_count-requires-then-i-lower c =
    let card = c.args.card.now in
    let h = c.requires.0 in
    rw c.part-second.ensures (shape_of card c.args.lower c.args.other h c.args.other (second_in card c.args.lower c.args.other h))

pub overflow_mul-result-then-i-lower : goal.overflow_mul-result-then-i-lower
overflow_mul-result-then-i-lower c =
    omega (arith, size c.args.card.now c.args.lower c.args.other c.requires.0 c.args.arcs c.state_count.ensures c.state_count-then-i-lower.ensures c.part-first.ensures c.part-second.ensures c.requires.1)

pub overflow_add-result-then-i-lower : goal.overflow_add-result-then-i-lower
overflow_add-result-then-i-lower c =
    omega (arith, size c.args.card.now c.args.lower c.args.other c.requires.0 c.args.arcs c.state_count.ensures c.state_count-then-i-lower.ensures c.part-first.ensures c.part-second.ensures c.requires.1)

pub returns-then-i-lower : goal.returns-then-i-lower
returns-then-i-lower c =
    let card = c.args.card.now in
    let i = c.args.lower in
    let j = c.args.other in
    let h = c.requires.0 in
    let e : get_or (joined_parts i j (parts_of card)) c.args.i [] ≡ joined_part (part_of card i) (part_of card j) = ap (λ (k : ℕ). get_or (joined_parts i j (parts_of card)) k []) c.if-i-lower.true ∙ new_here card i j h in
    let l = ap length e ∙ joined_length (part_of card i) (part_of card j) (parts_join card i j h) in
    let n = count card i j h c.state_count.ensures c.state_count-then-i-lower.ensures c.part-first.ensures c.part-second.ensures in
    (omega (arith, l, n, c.requires.1), omega (arith, size card i j h c.args.arcs c.state_count.ensures c.state_count-then-i-lower.ensures c.part-first.ensures c.part-second.ensures c.requires.1))

pub old_number-requires : goal.old_number-requires
old_number-requires c = omega (arith, few_machines c.args.card.now c.args.lower c.args.other c.requires.0, c.requires.2)

pub part_length-requires : goal.part_length-requires
part_length-requires c =
    let w = in_card c.args.card.now c.args.lower c.args.other c.requires.0 c.args.i c.if-i-lower.false c.requires.2 c.old_number.ensures in
    ((is_accepted c.args.card.now c.args.lower c.args.other c.requires.0).within c.old_number.result w.0).place

pub returns : goal.returns
returns c =
    let card = c.args.card.now in
    let w = in_card card c.args.lower c.args.other c.requires.0 c.args.i c.if-i-lower.false c.requires.2 c.old_number.ensures in
    (c.part_length.ensures.0 ∙ sym (ap length w.1 ∙ other_length card c.args.lower c.args.other c.requires.0 c.old_number.result w.0), c.part_length.ensures.1)
