-- What labels say of the best, for an order on profiles and a price that agrees with it: closed labels with none at the start say that there is no
-- candidate, and closed and attained ones have there the price of the best.
use Rattle.std.specs.Prelude.{◌≡◌, ◌⊎◌, ◌≢◌}
use Rattle.basics.specs.Words.{refl, sym, ◌∙◌, ap, true, List, Option, some, none, inl, inr, ℕ, length}
use Rattle.machine.specs.declared.Pair.{Pair}
use Rattle.card.specs.Card.{machines_of, card_refusal}
use Rattle.candidate.specs.Candidates.{profile_of}
use Rattle.paths.specs.Total.{asym, upto_not_less, less_not_same}
use Rattle.paths.specs.Costs.{Costs, Labels, atmost_some}
use Rattle.paths.specs.Graph.{path_cost, run→cost}
use Rattle.paths.specs.Labels.{Closed, Attained, lower_bound, unlabelled_none, held→run}
use Rattle.paths.specs.Best.{IsBest, before_total}
use Rattle.product.specs.Prices.{Price, Agrees}
use Rattle.product.specs.ProductGraph.{pairs, priced_graph, card_start}
use Rattle.product.specs.Best.{Contender, ProfileOrder}
use Rattle.product.specs.Sets.{are64_bits, IsCandidateOf, best_of_sets_in}
use Rattle.product.specs.BestCandidate.{BeatsOn, BestOf}
use Rattle.product.proofs.SetsTheorem.{no_path_no_best_of_sets, best_in_is_best_of_all_words}
use Rattle.product.specs.Laws.Accepted.{accepted_machines}
use Rattle.product.specs.Laws.Candidates.{fitting_cost, cost_fitting}
use Rattle.product.specs.Laws.BestCandidate.{best_of_sets_path}
use Rattle.product.specs.LabelTheorem.{BestAt}

module _ {costs : Costs} {price : Price costs} {better : ProfileOrder} (agrees : Agrees price better) (card sets : List ℕ) (ok : card_refusal card ≡ 0) (bits : are64_bits sets ≡ true) (L : Labels costs) (closed : Closed (priced_graph price card sets) L) where
  pub no_label_no_best : L (card_start card) ≡ none → best_of_sets_in better card sets ≡ none
  no_label_no_best l = no_path_no_best_of_sets agrees card sets ok bits (unlabelled_none (priced_graph price card sets) L closed (card_start card) l)

  pub label_best : Attained (priced_graph price card sets) L → (x : costs.Cost) → L (card_start card) ≡ some x → BestAt price better card sets x
  label_best attained x l = go (best_of_sets_in better card sets) refl
    where
      all : BestOf (machines_of card) (BeatsOn better (machines_of card)) (IsCandidateOf (machines_of card) sets) (best_of_sets_in better card sets)
      all = best_in_is_best_of_all_words agrees card sets ok bits

      d : List Pair
      d = (attained (card_start card) x l).letters

      d_cost : path_cost (priced_graph price card sets) (card_start card) d ≡ some x
      d_cost = run→cost (priced_graph price card sets) (held→run (priced_graph price card sets) (attained (card_start card) x l).held)

      go : (o : Option Contender) → best_of_sets_in better card sets ≡ o → BestAt price better card sets x
      go none e = absurd (all.none_exactly.0 e d (cost_fitting price sets (accepted_machines card ok).sound d x d_cost).is)
      go (some b) e = record { contender = b; is = e; its_profile = all.its_profile b e; cost = same (costs.total.compare x a.cost) ∙ a_cost; path = a }
        where
          a : IsBest (priced_graph price card sets) (card_start card) b.candidate
          a = best_of_sets_path agrees (accepted_machines card ok).sound sets b.candidate (all.is_best b e)

          a_cost : a.cost ≡ price.of b.profile (length b.candidate)
          a_cost =
              let q = fitting_cost price sets (accepted_machines card ok).sound b.candidate (all.is_best b e).candidate in
              let z : a.cost ≡ price.of (profile_of (machines_of card) b.candidate) (length b.candidate) = cc (q, a.is) in
              z ∙ ap (λ (p : List ℕ). price.of p (length b.candidate)) (sym (all.its_profile b e))

          -- the path d is no better
          other : costs.◌≺◌ x a.cost → d ≢ b.candidate
          other h q =
              let z : x ≡ a.cost = cc (d_cost, a.is, q) in
              less_not_same costs.total h z

          not_less : costs.◌≺◌ x a.cost → ⊥
          not_less h = asym (before_total costs pairs) (a.cost, b.candidate) (x, d) (a.first d x (other h) d_cost) (inl h)

          same : costs.◌≺◌ x a.cost ⊎ ((x ≡ a.cost) ⊎ costs.◌≺◌ a.cost x) → x ≡ a.cost
          same (inl h) = absurd (not_less h)
          same (inr (inl q)) = q
          same (inr (inr h)) =
              absurd (upto_not_less costs.total (atmost_some l (lower_bound (priced_graph price card sets) L closed (card_start card) b.candidate a.cost a.is)) h)
