use Rattle.join.proofs.CardParts.{first_in, second_in, shape_of}
use Rattle.join.proofs.card_parts.arc_count.Goals as goal

pub part-requires : goal.part-requires
part-requires c = (c.requires.accepted, first_in c.args.card.now c.args.lower c.args.other c.requires)

pub part-requires-2 : goal.part-requires-2
part-requires-2 c = (c.requires.accepted, second_in c.args.card.now c.args.lower c.args.other c.requires)

pub arc_count-requires : goal.arc_count-requires
arc_count-requires c =
    let card = c.args.card.now in
    (rw c.part.ensures (shape_of card c.args.lower c.args.other c.requires c.args.lower (first_in card c.args.lower c.args.other c.requires)), rw c.part-2.ensures (shape_of card c.args.lower c.args.other c.requires c.args.other (second_in card c.args.lower c.args.other c.requires)))
