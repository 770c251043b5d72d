-- What an accepted word gives a search. It serves every engine whose search is `Searched`. Assumes nothing.
use Rattle.std.specs.Prelude.{◌≡◌, ◌+◌, ◌*◌, ◌≤◌}
use Rattle.basics.specs.Words.{List, ℕ, arith, length}
use Rattle.card.specs.Card.{machines_of}
use Rattle.product.specs.Nodes.{product, state_counts}
use Rattle.product.specs.Optimizing.{input_refusal}
use Rattle.input.specs.AcceptedInput.{AcceptedInput, accepted_input}
use Rattle.input.proofs.Nodes.{node_room, nodes_few}
use Rattle.readout.specs.Searching.{SearchPre}

module _ (card ranking word : List ℕ) (room : ℕ) (ok : input_refusal card ranking word room ≡ 0) (P : ℕ) (e : P ≡ product (state_counts (machines_of card))) where
  accepts : AcceptedInput card ranking word room
  accepts = accepted_input card ranking word room ok

  pub word_few : (length word + 1) * P ≤ 3200
  word_few = nodes_few card word accepts.accepted P e accepts.sound

  pub word_fit : (length word + 1) * P * 8 ≤ room
  word_fit = omega (arith, accepts.nodes_fit, node_room card word accepts.accepted P e)

  -- what the search is given
  pub word_given : {front : List ℕ} → length front ≡ (length word + 1) * P * 8 → SearchPre card ranking word front P
  word_given h = record { accepted = accepts.accepted; ranks = accepts.ranks; sound = accepts.sound; states = e; room = h }
