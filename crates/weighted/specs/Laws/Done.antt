-- The graph of the cells is the weighted graph: labels that are done in the one are done in the other, and paths cost the same.
use Rattle.std.specs.Prelude.{◌≡◌, ◌∷◌}
use Rattle.basics.specs.Words.{refl, sym, ◌∙◌, ap, List, [], Option, some, none, ℕ}
use Rattle.machine.specs.declared.Pair.{Pair}
use Rattle.card.specs.Card.{machines_of}
use Rattle.paths.specs.Costs.{Labels}
use Rattle.paths.specs.Ranked.{Ranked, ranked_costs}
use Rattle.paths.specs.Graph.{Edge, Graph, add_to, follow, path_cost}
use Rattle.paths.specs.Labels.{Attained}
use Rattle.paths.specs.Best.{IsBest}
use Rattle.paths.specs.Positions.{Done}
use Rattle.product.specs.ProductGraph.{pairs, Move, move, ending, priced_move, priced_ending}
use Rattle.settling.specs.Packing.{Packing, packed_edge, packed_path, Packs}
use Rattle.settling.proofs.Packing.{unpacked_attained, unpacked_closed}
use Rattle.cells.specs.Trying.{cell_price}
use Rattle.entering.specs.Entering.{cell_graph}
use Rattle.product.specs.WeightedPaths.{by_weights, weighted_graph}
use Rattle.weighted.specs.WeighsBy.{WeighsBy}
use Rattle.weighted.specs.Laws.Weighing.{weights_price}

-- costs as they are
abbrev unpacked_costs : Packing (ranked_costs 1)
unpacked_costs = record { edge = λ c. c; path = λ c. c; Short = λ _. Unit {0}; sum = λ e c. refl; rest = λ e c h. h; less = λ a b s t h. h }

as_it_is : (o : Option (Ranked 1)) → o ≡ packed_path unpacked_costs o
as_it_is none = refl
as_it_is (some c) = refl

edge_as_it_is : (o : Option (Edge (Ranked 1))) → o ≡ packed_edge unpacked_costs o
edge_as_it_is none = refl
edge_as_it_is (some e) = refl

-- ---- two graphs with the same edges and endings

abbrev Same : (G H : Graph (ranked_costs 1) pairs) → Type 0
Same G H = Packs unpacked_costs G H

turned : (G H : Graph (ranked_costs 1) pairs) → Same G H → Same H G
turned G H X = record {
  edges = λ u p. edge_as_it_is (G.edge u p) ∙ sym (X.edges u p) ∙ edge_as_it_is (H.edge u p);
  endings = λ u. as_it_is (G.ending u) ∙ sym (X.endings u) ∙ as_it_is (H.ending u);
}

module _ (G H : Graph (ranked_costs 1) pairs) (X : Same G H) where
  same_attained : {M : Labels (ranked_costs 1)} → Attained H M → Attained G M
  same_attained {M} A = unpacked_attained unpacked_costs G H X M M (λ u. as_it_is (M u)) (λ u c l. tt) (λ u ps c d l r k. tt) A

  same_done : {pos : ℕ → ℕ} {M : Labels (ranked_costs 1)} {i : ℕ} → Done H pos M i → Done G pos M i
  same_done {M = M} D = record {
    attained = same_attained D.attained;
    closed = λ u h. unpacked_closed unpacked_costs G H X M M (λ u. as_it_is (M u)) (λ u c l. tt) u (λ c e. tt) (λ p e d k l. tt) (D.closed u h);
    blank = D.blank;
  }

  same_cost : (u : ℕ) (ps : List Pair) → path_cost H u ps ≡ path_cost G u ps
  unfolding path_cost
  same_cost u [] = X.endings u ∙ sym (as_it_is (G.ending u))
  same_cost u (p ∷ ps) = ap (λ (o : Option (Edge (Ranked 1))). follow H o (λ v. path_cost H v ps)) (X.edges u p ∙ sym (edge_as_it_is (G.edge u p))) ∙ go (G.edge u p) (λ v. same_cost v ps)
    where
      go : (o : Option (Edge (Ranked 1))) → ((v : ℕ) → path_cost H v ps ≡ path_cost G v ps) → follow H o (λ v. path_cost H v ps) ≡ follow G o (λ v. path_cost G v ps)
      go none rec = refl
      go (some e) rec = ap (add_to G e.cost) (rec e.target)

  same_best : (u : ℕ) (ps : List Pair) → IsBest H u ps → IsBest G u ps
  same_best u ps B = record { cost = B.cost; is = sym (same_cost u ps) ∙ B.is; first = λ qs d n h. B.first qs d n (same_cost u qs ∙ h) }

-- ---- the two graphs

module _ {weights ws : List ℕ} (W : WeighsBy weights ws) (card sets : List ℕ) where
  same_edge : (o : Option Move) → priced_move (cell_price ws) sets (machines_of card) o ≡ packed_edge unpacked_costs (priced_move (by_weights weights) sets (machines_of card) o)
  same_edge none = refl
  same_edge (some m) = let e = weights_price W m.marks 1 in λ i. some (record { target = m.target; cost = e i })

  same_ending : (o : Option (List ℕ)) → priced_ending (cell_price ws) sets (machines_of card) o ≡ packed_path unpacked_costs (priced_ending (by_weights weights) sets (machines_of card) o)
  same_ending none = refl
  same_ending (some xs) = let e = weights_price W xs 0 in λ i. some (e i)

  same : Same (weighted_graph card weights sets) (cell_graph ws card sets)
  same = record { edges = λ u p. same_edge (move sets (machines_of card) u p); endings = λ u. same_ending (ending sets (machines_of card) u) }

  pub weighted_attained : {M : Labels (ranked_costs 1)} → Attained (cell_graph ws card sets) M → Attained (weighted_graph card weights sets) M
  weighted_attained A = same_attained (weighted_graph card weights sets) (cell_graph ws card sets) same A

  pub weighted_done : {pos : ℕ → ℕ} {M : Labels (ranked_costs 1)} {i : ℕ} → Done (cell_graph ws card sets) pos M i → Done (weighted_graph card weights sets) pos M i
  weighted_done D = same_done (weighted_graph card weights sets) (cell_graph ws card sets) same D

  pub cells_done : {pos : ℕ → ℕ} {M : Labels (ranked_costs 1)} {i : ℕ} → Done (weighted_graph card weights sets) pos M i → Done (cell_graph ws card sets) pos M i
  cells_done D = same_done (cell_graph ws card sets) (weighted_graph card weights sets) (turned (weighted_graph card weights sets) (cell_graph ws card sets) same) D

  pub weighted_cost : (u : ℕ) (ps : List Pair) → path_cost (cell_graph ws card sets) u ps ≡ path_cost (weighted_graph card weights sets) u ps
  weighted_cost u ps = same_cost (weighted_graph card weights sets) (cell_graph ws card sets) same u ps

  pub weighted_best : (u : ℕ) (ps : List Pair) → IsBest (cell_graph ws card sets) u ps → IsBest (weighted_graph card weights sets) u ps
  weighted_best u ps B = same_best (weighted_graph card weights sets) (cell_graph ws card sets) same u ps B
