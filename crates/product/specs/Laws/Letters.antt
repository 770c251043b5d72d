-- The letters of the edges at a node: an insertion stays at its position, any other pair reads a symbol of the set there and leads to the next one.
-- It is all that labelling and walking ask of a graph over a card's nodes, whatever its costs: the product at any price, or a part of it.
use Rattle.std.specs.Prelude.{◌≡◌, ◌⊎◌, ◌≢◌, ◌≤◌, ◌<◌}
use Rattle.basics.proofs.Words.{◌∙◌, ap, subst, true, List, some, inl, inr, ℕ, suc, arith, length, get_or, leb, member, right}
use Rattle.std.proofs.Common.{leb-true}
use Rattle.machine.specs.declared.Pair.{Pair}
use Rattle.machine.specs.Symbols.{empty_symbol, is_pair}
use Rattle.card.specs.Layout.{symbol_count}
use Rattle.card.specs.Card.{machines_of, card_refusal}
use Rattle.paths.specs.Costs.{Costs}
use Rattle.paths.specs.Graph.{Edge, Graph}
use Rattle.paths.specs.Positions.{Positioned}
use Rattle.product.specs.Prices.{Price}
use Rattle.product.specs.ProductGraph.{pairs, priced_graph}
use Rattle.product.specs.Setting.{position_of}
use Rattle.product.specs.Laws.Edges.{Advanced, stays, goes_on, advanced, Moved, moved, EdgeOf, edge_of, ending_of_lem, word_ended, move_position}
use Rattle.product.specs.Laws.Accepted.{accepted_machines}
use Rattle.product.specs.Laws.CardGraph.{priced_symbols}

-- a pair of the position i: an insertion, or one that reads a symbol of the set there; its out is one of the card's symbols
pub record PairAt (card sets : List ℕ) (i : ℕ) (p : Pair) : Type 0 where
  pub is_pair_lem : is_pair p ≡ true
  pub input_there : (p.input ≡ empty_symbol) ⊎ ((p.input ≢ empty_symbol) × (member (get_or sets i 0) p.input ≡ true))
  pub output_there : p.output ≤ symbol_count card

-- with the node v that it leads to
pub record LetterAt (card sets : List ℕ) (i : ℕ) (p : Pair) (v : ℕ) : Type 0 where
  pub pair : PairAt card sets i p
  pub stays : p.input ≡ empty_symbol → (i ≤ length sets) × (position_of card v ≡ i)
  pub leaves : p.input ≢ empty_symbol → (i < length sets) × (position_of card v ≡ suc i)

-- a graph over the nodes of a card and a list of sets: its edges have these letters, and it ends past the last set
pub record OverSets {costs : Costs} (G : Graph costs pairs) (card sets : List ℕ) : Type 0 where
  pub letters : (u : ℕ) (p : Pair) (e : Edge costs.Cost) → G.edge u p ≡ some e → LetterAt card sets (position_of card u) p e.target
  pub ends : (u : ℕ) (c : costs.Cost) → G.ending u ≡ some c → position_of card u ≡ length sets

module _ {costs : Costs} {G : Graph costs pairs} {card sets : List ℕ} (O : OverSets G card sets) where
  pub letter_at : (u : ℕ) (p : Pair) (e : Edge costs.Cost) (i : ℕ) → position_of card u ≡ i → G.edge u p ≡ some e → LetterAt card sets i p e.target
  letter_at u p e i a h = subst (λ (n : ℕ). LetterAt card sets n p e.target) a (O.letters u p e h)

  pub over_positioned : Positioned G (position_of card) (length sets)
  over_positioned = record { next = λ u p e h. go (O.letters u p e h) (O.letters u p e h).pair.input_there; ends = O.ends }
    where
      go : {i v : ℕ} {p : Pair} → LetterAt card sets i p v → (p.input ≡ empty_symbol) ⊎ ((p.input ≢ empty_symbol) × (member (get_or sets i 0) p.input ≡ true)) → (position_of card v ≡ i) ⊎ (position_of card v ≡ suc i)
      go l (inl e) = inl (l.stays e).1
      go l (inr n) = inr (l.leaves n.0).1

  -- and so has a part of such a graph, with other costs
  pub part_over : {costs' : Costs} {H : Graph costs' pairs} → ((u : ℕ) (p : Pair) (e : Edge costs'.Cost) → H.edge u p ≡ some e → (f : Edge costs.Cost) × (G.edge u p ≡ some f) × (f.target ≡ e.target))
      → ((u : ℕ) (c : costs'.Cost) → H.ending u ≡ some c → (d : costs.Cost) × (G.ending u ≡ some d)) → OverSets H card sets
  part_over edges ends = record {
    letters = λ u p e h. let f = edges u p e h in subst (λ (v : ℕ). LetterAt card sets (position_of card u) p v) f.2 (O.letters u p f.0 f.1);
    ends = λ u c h. let d = ends u c h in O.ends u d.0 d.1;
  }

-- the product at any price
pub priced_over : {costs : Costs} (price : Price costs) (card sets : List ℕ) → card_refusal card ≡ 0 → OverSets (priced_graph price card sets) card sets
priced_over {costs} price card sets ok = record {
  letters = letters;
  ends = λ u c h. let k = ending_of_lem price sets (machines_of card) u c h in (word_ended sets (machines_of card) u k.marks k.is).at_end;
}
  where
    letters : (u : ℕ) (p : Pair) (e : Edge costs.Cost) → (priced_graph price card sets).edge u p ≡ some e → LetterAt card sets (position_of card u) p e.target
    letters u p e h = go (advanced sets (position_of card u) p l.position l.advances)
      where
        k : EdgeOf price sets (machines_of card) u p e
        k = edge_of price sets (machines_of card) u p e h

        l : Moved sets (machines_of card) u p k.by
        l = moved sets (machines_of card) u p k.by k.is

        at : position_of card e.target ≡ l.position
        at = ap (position_of card) k.target_is ∙ move_position price sets (machines_of card) (accepted_machines card ok).sound u p k.by l

        few : p.output ≤ symbol_count card
        few = leb-true p.output (symbol_count card) (right (leb p.input (symbol_count card)) (leb p.output (symbol_count card)) (priced_symbols card sets ok price u p e h))

        go : Advanced sets (position_of card u) p l.position → LetterAt card sets (position_of card u) p e.target
        go (stays z q b) = record { pair = record { is_pair_lem = l.is_pair_lem; input_there = inl z; output_there = few }; stays = λ _. (b, at ∙ q); leaves = λ n. absurd (n z) }
        go (goes_on z q b w) = record { pair = record { is_pair_lem = l.is_pair_lem; input_there = inr (z, w); output_there = few }; stays = λ e. absurd (z e); leaves = λ _. (b, omega (arith, at)) }
