use Rattle.std.specs.Prelude.{◌≡◌, ◌+◌, ◌<◌}
use Rattle.basics.specs.Words.{sym, ap, ap₂, ◌∙◌, List, [], ℕ, arith, length, get_or}
use Rattle.layout.specs.Layout.{part_of}
use Rattle.card.specs.Layout.{machine_count, parts_of}
use Rattle.join.specs.JoinedCard.{joined_part, joined_parts}
use Rattle.join.specs.Writing.{CardJoins, old_number}
use Rattle.join.proofs.CardParts.{joined_ready, second_in, few_machines, parts_join, new_here, new_other}
use Rattle.join.proofs.card_parts.write_part.Goals as goal

module _ (card : List ℕ) (i j : ℕ) (h : CardJoins card i j) (k : ℕ) where
  -- the joined part's place
  here : k ≡ i → get_or (joined_parts i j (parts_of card)) k [] ≡ joined_part (part_of card i) (part_of card j)
  here e = ap (λ (m : ℕ). get_or (joined_parts i j (parts_of card)) m []) e ∙ new_here card i j h

  -- the old part's number
  in_card : {r : ℕ} → (k ≡ i → ⊥) → k + 1 < machine_count card → r ≡ old_number j k → (r < machine_count card) × (get_or (joined_parts i j (parts_of card)) k [] ≡ part_of card r)
  in_card n hk e =
      let w = new_other card i j h k n hk in
      (omega (arith, e, w.0), w.1 ∙ ap (part_of card) (sym e))

pub part-requires-then-i-lower : goal.part-requires-then-i-lower
part-requires-then-i-lower c = (c.requires.0.accepted, second_in c.args.card.now c.args.lower c.args.other c.requires.0)

pub write_joined-requires : goal.write_joined-requires
write_joined-requires c =
    let card = c.args.card.now in
    let i = c.args.lower in
    let j = c.args.other in
    joined_ready (part_of card i) (part_of card j) _ _ (length c.args.stretch.now) c.args.arcs c.part.ensures c.part-then-i-lower.ensures (parts_join card i j c.requires.0) (c.requires.3 ∙ ap length (here card i j c.requires.0 c.args.i c.if-i-lower.true)) c.requires.1

pub old_number-requires : goal.old_number-requires
old_number-requires c = omega (arith, few_machines c.args.card.now c.args.lower c.args.other c.requires.0, c.requires.2)

pub write_part-requires : goal.write_part-requires
write_part-requires c =
    c.requires.3
    ∙ ap length (in_card c.args.card.now c.args.lower c.args.other c.requires.0 c.args.i c.if-i-lower.false c.requires.2 c.old_number.ensures).1
    ∙ ap length (sym c.part-else-i-lower.ensures)

pub returns-then-i-lower : goal.returns-then-i-lower
returns-then-i-lower c =
    c.write_joined.ensures ∙ ap₂ joined_part c.part.ensures c.part-then-i-lower.ensures ∙ sym (here c.args.card.now c.args.lower c.args.other c.requires.0 c.args.i c.if-i-lower.true)

pub returns-else-i-lower : goal.returns-else-i-lower
returns-else-i-lower c =
    c.write_part.ensures ∙ c.part-else-i-lower.ensures ∙ sym (in_card c.args.card.now c.args.lower c.args.other c.requires.0 c.args.i c.if-i-lower.false c.requires.2 c.old_number.ensures).1
