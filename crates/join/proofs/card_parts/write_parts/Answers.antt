use Rattle.std.specs.Prelude.{◌≡◌, ◌+◌, ◌*◌, ◌-◌, ◌<◌, ◌≤◌}
use Rattle.basics.proofs.Words.{sym, ap, subst, ◌∙◌, List, [], ℕ, arith, length, get_or}
use Rattle.card.specs.Layout.{machine_count, parts_of}
use Rattle.join.specs.JoinedCard.{joined_parts}
use Rattle.join.specs.Writing.{placed, table_length, joined_bytes, CardJoins}
use Rattle.joined.specs.Laws.Placed.{placed_mid}
use Rattle.joined.proofs.Rest.{Rest, rest_start, rest_room, rest_next, rest_end}
use Rattle.join.proofs.CardParts.{second_in, few_machines, new_count, card_length}
use Rattle.join.proofs.card_parts.write_parts.Goals as goal

module _ (card : List ℕ) (i j : ℕ) (h : CardJoins card i j) {machines : ℕ} (e : machines ≡ machine_count card) where
  many : machines - 1 ≡ machine_count card - 1
  many = ap (λ (n : ℕ). n - 1) e

  facts : (1 < machine_count card) × (machine_count card ≤ 6)
  facts = (omega (arith, h.may.order, second_in card i j h), few_machines card i j h)

-- the part lies within the target
room : (card : List ℕ) (i j : ℕ) → CardJoins card i j → {z : List ℕ} {end n k offset : ℕ} {t : List ℕ} → Rest (λ (part : List ℕ). part) (joined_parts i j (parts_of card)) z end n k offset t
    → k < machine_count card - 1 → {size : ℕ} → size ≡ length (get_or (joined_parts i j (parts_of card)) k []) → offset + size ≤ length t
room card i j h r below e = omega (arith, rest_room (λ (part : List ℕ). part) (joined_parts i j (parts_of card)) r [] (omega (arith, new_count card i j h, below)), e, r.size)

pub overflow_sub-machines : goal.overflow_sub-machines
overflow_sub-machines c = omega (arith, c.machine_count-machines.ensures, facts c.args.card.now c.args.lower c.args.other c.requires.0 c.machine_count-machines.ensures)

pub loop-i-init : goal.loop-i-init
loop-i-init c =
    let card = c.args.card.now in
    let i = c.args.lower in
    let j = c.args.other in
    let t = c.args.target.now in
    let P = joined_parts i j (parts_of card) in
    let e : table_length card ≡ 2 + 4 * (c.machine_count-machines.result - 1) = ap (λ (n : ℕ). 2 + 4 * n) (sym (many card i j c.requires.0 c.machine_count-machines.ensures)) in (
      omega arith,
      subst (λ (k : ℕ). Rest (λ (part : List ℕ). part) P (placed (table_length card) (joined_bytes i j card) t) (table_length card + length (joined_bytes i j card)) (length t) 0 k t) e
          (rest_start (λ (part : List ℕ). part) P (table_length card) t (omega (arith, card_length card i j c.requires.0, c.requires.2))),
    )

pub slice_bounds-write_part-end : goal.slice_bounds-write_part-end
slice_bounds-write_part-end c =
    omega (arith, room c.args.card.now c.args.lower c.args.other c.requires.0 c.loop-i.invariant.1 (omega (arith, c.machine_count-machines.ensures)) c.part_length.ensures.0)

pub loop-i-preserved : goal.loop-i-preserved
loop-i-preserved c =
    let card = c.args.card.now in
    let i = c.args.lower in
    let j = c.args.other in
    let P = joined_parts i j (parts_of card) in
    let end = c.loop-i.offset + c.part_length.result in
    let n : length c.write_part.new.stretch ≡ end - c.loop-i.offset = ap length c.write_part.ensures ∙ omega (arith, c.part_length.ensures.0) in (
      omega arith,
      rest_next (λ (part : List ℕ). part) P c.loop-i.invariant.1 [] (omega (arith, new_count card i j c.requires.0, c.machine_count-machines.ensures)) end _
          (placed_mid c.loop-i.offset (end - c.loop-i.offset) c.loop-i.target c.write_part.new.stretch n ∙ ap (λ (y : List ℕ). placed c.loop-i.offset y c.loop-i.target) c.write_part.ensures)
          (omega (arith, c.part_length.ensures.0)),
    )

pub returns : goal.returns
returns c =
    let card = c.args.card.now in
    let i = c.args.lower in
    let j = c.args.other in
    (rest_end (λ (part : List ℕ). part) (joined_parts i j (parts_of card)) c.loop-i.invariant.1 (omega (arith, new_count card i j c.requires.0, c.machine_count-machines.ensures))).0
