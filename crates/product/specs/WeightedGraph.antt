-- The product of an accepted card's machines at the price of weights, as the theory of paths and an engine ask for it.
use Rattle.std.specs.Prelude.{◌≡◌, ◌*◌, ◌≤◌}
use Rattle.basics.proofs.Words.{refl, true, List, map, some, ℕ, length, get_or, leb, all_of, each_at}
use Rattle.std.proofs.Common.{le-leb}
use Rattle.machine.specs.declared.Pair.{Pair}
use Rattle.card.specs.Card.{machines_of, card_refusal}
use Rattle.paths.specs.Ranked.{Ranked, letter_count, count_at}
use Rattle.paths.specs.RankedGraph.{ranked_counts}
use Rattle.paths.specs.Graph.{Edge}
use Rattle.paths.specs.Bounds.{Sized, BoundedCount}
use Rattle.product.specs.Nodes.{state_counts, states_at}
use Rattle.product.specs.Laws.Edges.{edge_of, ending_of_lem, moved, word_ended, priced_sized, step_marks_bound, ending_marks_bound}
use Rattle.product.specs.Laws.Accepted.{accepted_machines}
use Rattle.product.specs.Weights.{weighted_sum}
use Rattle.product.specs.Laws.Sums.{sum_bound}
use Rattle.product.specs.WeightedPaths.{by_weights, weighted_graph}

-- weights of at most W and counts of at most 15 have a sum of at most 15 W a machine
pub marks_weigh : (W : ℕ) (weights : List ℕ) → all_of (λ w. leb w W) weights ≡ true → (xs : List ℕ) → ((i : ℕ) → get_or xs i 0 ≤ 15) → weighted_sum weights xs ≤ W * 15 * length weights
marks_weigh W weights h xs b = sum_bound W 15 weights xs h (each_at (λ n. leb n 15) xs 0 (λ i k. le-leb (get_or xs i 0) 15 (b i)))

module _ (card weights sets : List ℕ) (ok : card_refusal card ≡ 0) where
  -- the pair count of a path is the number of its pairs
  pub weighted_sized : Sized (weighted_graph card weights sets) (letter_count 1)
  weighted_sized = priced_sized 1 (by_weights weights) (λ xs n. refl) sets (machines_of card)

  -- with weights of at most W the sum of a path is at most 15 W a machine for each pair, and for the end
  pub weighted_sums : (W : ℕ) → all_of (λ w. leb w W) weights ≡ true → BoundedCount (weighted_graph card weights sets) (count_at 1 0) (W * 15 * length weights) (W * 15 * length weights)
  weighted_sums W h = ranked_counts 1 (weighted_graph card weights sets) 0 (W * 15 * length weights) (W * 15 * length weights) edges ends
    where
      edges : (u : ℕ) (p : Pair) (e : Edge (Ranked 1)) → (weighted_graph card weights sets).edge u p ≡ some e → count_at 1 0 e.cost ≤ W * 15 * length weights
      edges u p e k =
          let a = edge_of (by_weights weights) sets (machines_of card) u p e k in
          let l = moved sets (machines_of card) u p a.by a.is in
          rw (a.cost_is, l.marks_are) (marks_weigh W weights h (map (λ r. r.1) l.steps) (step_marks_bound (accepted_machines card ok).sound (states_at (state_counts (machines_of card)) u) p l.steps l.steps_are))

      ends : (u : ℕ) (c : Ranked 1) → (weighted_graph card weights sets).ending u ≡ some c → count_at 1 0 c ≤ W * 15 * length weights
      ends u c k =
          let a = ending_of_lem (by_weights weights) sets (machines_of card) u c k in
          let l = word_ended sets (machines_of card) u a.marks a.is in
          rw a.cost_is (marks_weigh W weights h a.marks (ending_marks_bound (accepted_machines card ok).sound (states_at (state_counts (machines_of card)) u) a.marks l.ends))
