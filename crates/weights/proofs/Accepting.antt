-- What the checks before the search accept.
use Rattle.std.specs.Prelude.{◌≡◌, ◌*◌, ◌≤◌}
use Rattle.basics.specs.Words.{true, List, ℕ, length, lit<}
use Rattle.refusals.specs.Refusals.{refuse}
use Rattle.refusals.proofs.Refusals.{passed}
use Rattle.card.specs.Layout.{machine_count, symbol_count}
use Rattle.card.specs.Card.{card_refusal, machines_of}
use Rattle.product.specs.Nodes.{node_count}
use Rattle.product.specs.Optimizing.{sound_word}
use Rattle.input.specs.AcceptedInput.{passes}
use Rattle.product.specs.Weights.{sound_weights}
use Rattle.weights.specs.Weighing.{weighted_refusal}
use Rattle.weights.specs.Accepting.{Accepts}

pub accepts : (card weights word : List ℕ) (room : ℕ) → weighted_refusal card weights word room ≡ 0 → Accepts card weights word room
unfolding weighted_refusal
accepts card weights word room e =
    let r = sound_weights (machine_count card) weights in
    let w = sound_word (symbol_count card) word in
    let p = passes card (refuse 26 r) (refuse 8 w) (2 * node_count (machines_of card) (length word)) room e in
    record { accepted = p.accepted; weighs = passed 26 r (lit< tt) p.order; sound = passed 8 w (lit< tt) p.word; nodes_fit = p.nodes_fit }
