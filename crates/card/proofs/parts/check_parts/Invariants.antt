use Rattle.std.specs.Prelude.{◌≡◌, ◌∷◌, ◌+◌, ◌^◌, ◌≤◌}
use Rattle.basics.proofs.Words.{[], length, drop}
use Rattle.refusals.specs.Refusals.{refuse, first_of}
use Rattle.card.specs.Card.{parts_refusal, few_states}
use Rattle.card.specs.Packing.{total, split}
use Rattle.card.proofs.PartSteps.{parts_left}
use Rattle.card.proofs.parts.check_parts.Given as goal

abbrev pub invariant-loop-length : goal.invariant-loop-length
invariant-loop-length l =
    (l.offset + total (drop l.length-index l.lengths) ≤ length l.bytes)
    × (l.states ≤ 32 ^ l.length-index)
    × (parts_left l.states l.symbols (split (drop l.length-index l.lengths) (drop l.offset l.bytes))
    ≡ first_of (parts_refusal l.symbols (split l.lengths (drop l.start l.bytes)) ∷ refuse 6 (few_states (split l.lengths (drop l.start l.bytes))) ∷ []))
