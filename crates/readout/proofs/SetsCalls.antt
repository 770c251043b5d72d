-- What accepted sets give a search over sets. It serves every engine whose search is `Searched`. Assumes nothing.
use Rattle.std.specs.Prelude.{◌≡◌, ◌+◌, ◌*◌, ◌≤◌}
use Rattle.basics.specs.Words.{List, ℕ, arith, length}
use Rattle.card.specs.Layout.{symbol_count}
use Rattle.card.specs.Card.{machines_of}
use Rattle.product.specs.Nodes.{product, state_counts}
use Rattle.product.specs.OptimizingSets.{sets_input_refusal}
use Rattle.product.specs.Laws.SymbolSets.{read_symbols}
use Rattle.input.specs.AcceptedInput.{AcceptedSetsInput, accepted_sets_input, accepted_bits}
use Rattle.input.proofs.Nodes.{room_for, few_for}
use Rattle.readout.specs.Searching.{SetsPre}

module _ (card ranking sets : List ℕ) (room : ℕ) (ok : sets_input_refusal card ranking sets room ≡ 0) where
  pub accepts : AcceptedSetsInput card ranking sets room
  accepts = accepted_sets_input card ranking sets room ok

  module _ (P : ℕ) (e : P ≡ product (state_counts (machines_of card))) where
    pub sets_few : (length sets + 1) * P ≤ 3200
    sets_few = few_for card accepts.accepted P e (length sets) accepts.sound.short

    pub sets_fit : (length sets + 1) * P * 8 ≤ room
    sets_fit = omega (arith, accepts.nodes_fit, room_for card accepts.accepted P e (length sets))

    -- what the search is given
    pub sets_given : {front : List ℕ} → length front ≡ (length sets + 1) * P * 8 → SetsPre card ranking sets front P
    sets_given h =
        record {
          setting = record { accepted = accepts.accepted; few = accepts.sound.short; symbols = read_symbols (symbol_count card) sets accepts.sound.symbols; states = e };
          ranks = accepts.ranks;
          bits = accepted_bits accepts;
          room = h;
        }
