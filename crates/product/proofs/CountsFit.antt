-- Counts that fit, over the definitions alone: a candidate that none beats by profile or pair count passes no node twice, so its pairs are few and its
-- counts small. It holds for every accepted card, every order on profiles with a price that agrees with it, and at most 24 symbols or sets of symbols.
use Rattle.std.specs.Prelude.{◌≡◌, ◌+◌, ◌*◌, ◌<◌, ◌≤◌}
use Rattle.basics.specs.Words.{subst, List, some, ℕ, arith, length, mul-le-mul}
use Rattle.machine.specs.declared.Pair.{Pair}
use Rattle.card.specs.Layout.{symbol_count}
use Rattle.card.specs.Card.{machines_of, card_refusal}
use Rattle.candidate.specs.Candidates.{IsCandidate}
use Rattle.paths.specs.Costs.{Costs}
use Rattle.paths.specs.Graph.{Graph, Run, cost→run}
use Rattle.paths.specs.Best.{IsCheapest, cheapest_distinct, cheapest_short}
use Rattle.product.specs.Nodes.{node_count}
use Rattle.product.specs.Best.{Contender, ProfileOrder, best_in}
use Rattle.product.specs.Sets.{singletons, IsCandidateOf, best_of_sets_in}
use Rattle.product.specs.Prices.{Price, Agrees}
use Rattle.product.specs.ProductGraph.{pairs, priced_graph, card_start}
use Rattle.product.specs.BestCandidate.{IsUnbeatenIn}
use Rattle.product.proofs.BestTheorem.{best_in_is_best_of_all}
use Rattle.product.specs.Laws.Accepted.{accepted_machines}
use Rattle.product.specs.Laws.JointStep.{AllSound}
use Rattle.product.specs.Laws.CardGraph.{start_within, priced_within}
use Rattle.product.specs.Laws.PassedNodes.{passes_each, passes_distinct}
use Rattle.product.proofs.Best.{best_contender}
use Rattle.product.specs.Laws.BestCandidate.{unbeaten_path, unbeaten_sets, best_unbeaten}
use Rattle.product.specs.Laws.BestOfSets.{fits_length}
use Rattle.product.proofs.BestOfSets.{best_for_one}
use Rattle.product.specs.Laws.Sets.{as_many}
use Rattle.product.specs.Laws.Counts.{profile_bound}
use Rattle.product.specs.CountsFit.{CountsFit, SmallBest}

module _ {costs : Costs} {price : Price costs} {better : ProfileOrder} (agrees : Agrees price better) (card : List ℕ) (ok : card_refusal card ≡ 0) where
  -- over sets
  pub unbeaten_of_sets_fit : (sets : List ℕ) → length sets ≤ 24 → (c : List Pair) → IsUnbeatenIn better (machines_of card) (IsCandidateOf (machines_of card) sets) c → CountsFit (machines_of card) (length sets) c
  unbeaten_of_sets_fit sets h c a = record {
    passes_each = passes_each price sets sound run;
    no_node_twice = passes_distinct price sets sound run (cheapest_distinct G (card_start card) c cheapest);
    fewer_than_nodes = short;
    few_pairs = omega (arith, all_nodes, short);
    small_counts = profile_bound sound c _ (omega (arith, all_nodes, short));
  }
    where
      G : Graph costs pairs
      G = priced_graph price card sets

      sound : AllSound (symbol_count card) (machines_of card)
      sound = (accepted_machines card ok).sound

      cheapest : IsCheapest G (card_start card) c
      cheapest = unbeaten_path agrees sound sets c a

      run : Run G (card_start card) c cheapest.cost
      run = cost→run G (card_start card) c cheapest.cost cheapest.is

      short : length c < node_count (machines_of card) (length sets)
      short = cheapest_short G (priced_within card sets ok price) (card_start card) (start_within card sets ok) c cheapest

      all_nodes : node_count (machines_of card) (length sets) ≤ 25 * 128
      all_nodes = let n : length sets + 1 ≤ 25 = omega arith in mul-le-mul n (accepted_machines card ok).few_states_lem

  -- for a word
  pub unbeaten_fit : (word : List ℕ) → length word ≤ 24 → (c : List Pair) → IsUnbeatenIn better (machines_of card) (IsCandidate (machines_of card) word) c → CountsFit (machines_of card) (length word) c
  unbeaten_fit word h c a =
      subst (λ n. CountsFit (machines_of card) n c) (as_many word)
      (unbeaten_of_sets_fit (singletons word) (rw (as_many word) h) c (unbeaten_sets word a))

  -- so the best of the definitions is small
  pub best_in_is_small : (word : List ℕ) → length word ≤ 24 → (b : Contender) → best_in better card word ≡ some b → SmallBest b
  best_in_is_small word h b e =
      let f = unbeaten_fit word h b.candidate (best_unbeaten agrees b.candidate ((best_in_is_best_of_all agrees card word ok).is_best b e)) in
      record { pairs = f.few_pairs; counts = rw (best_contender agrees card word ok b e) f.small_counts }

  pub best_of_sets_is_small : (sets : List ℕ) → length sets ≤ 24 → (b : Contender) → best_of_sets_in better card sets ≡ some b → SmallBest b
  best_of_sets_is_small sets h b e =
      let o = best_for_one better card sets b e in
      best_in_is_small o.word (rw (fits_length sets o.word o.fits) h) b o.is_best
