-- What a label of the start says of the best candidate. Assumes nothing.
use Rattle.std.specs.Prelude.{◌≡◌, ◌≤◌}
use Rattle.basics.specs.Words.{sym, ◌∙◌, ap, true, List, some, none, ℕ, arith, length}
use Rattle.machine.specs.declared.Pair.{Pair}
use Rattle.ranking.specs.Rankings.{is_ranking}
use Rattle.ranking.specs.Lemmas.Rankings.{ranking_facts}
use Rattle.card.specs.Layout.{machine_count}
use Rattle.card.specs.Card.{machines_of, card_refusal}
use Rattle.card.specs.Accepted.{accepted}
use Rattle.candidate.specs.Candidates.{profile_of}
use Rattle.paths.specs.Costs.{Labels}
use Rattle.paths.specs.Ranked.{Ranked, ranked_costs}
use Rattle.paths.specs.ByRanking.{ranked}
use Rattle.paths.specs.Labels.{Closed, Attained}
use Rattle.paths.specs.Best.{IsBest, best_unique}
use Rattle.ranking.specs.Harmony.{is_better}
use Rattle.product.specs.Best.{Contender, harmonic}
use Rattle.product.specs.Sets.{are64_bits, best_of_sets_in, best_of_sets}
use Rattle.product.specs.Prices.{ranking_agrees}
use Rattle.product.specs.ProductGraph.{card_start}
use Rattle.product.proofs.SetsTheorem.{same_order}
use Rattle.product.proofs.LabelTheorem.{no_label_no_best, label_best}
use Rattle.product.specs.Laws.Accepted.{accepted_machines}
use Rattle.product.specs.Laws.BestCandidate.{profile_length}
use Rattle.tables.specs.Engine.{engine_graph}
use Rattle.tables.specs.Places.{six_places}
use Rattle.tables.specs.Laws.Harmony.{six_harmony}

-- the best candidate, and the cost x of its path
pub record FoundAt (card ranking sets : List ℕ) (x : Ranked 6) : Type 0 where
  pub form : Contender
  pub is : best_of_sets card ranking sets ≡ some form
  pub profile : form.profile ≡ profile_of (machines_of card) form.candidate
  pub cost : x ≡ ranked (six_places ranking) form.profile (length form.candidate)
  pub path : IsBest (engine_graph (machines_of card) ranking sets) (card_start card) form.candidate

module _ (card ranking sets : List ℕ) (ok : card_refusal card ≡ 0) (ranks : is_ranking (machine_count card) ranking ≡ true) (bits : are64_bits sets ≡ true) where
  few : length ranking ≤ 6
  few = omega (arith, (ranking_facts (machine_count card) ranking ranks).places, (accepted card ok).head)

  few_counts : (c : List Pair) → length (profile_of (machines_of card) c) ≤ 6
  few_counts c = omega (arith, profile_length (machines_of card) c, (accepted_machines card ok).count, (accepted card ok).head)

  -- the six places order profiles as the ranking does, so they have one best
  six_best : best_of_sets_in (harmonic (six_places ranking)) card sets ≡ best_of_sets card ranking sets
  unfolding best_of_sets
  six_best =
      same_order (ranking_agrees (six_places ranking)) (ranking_agrees ranking) card sets ok bits
      (λ c d. ap is_better (six_harmony (profile_of (machines_of card) c) (profile_of (machines_of card) d) (few_counts c) (few_counts d) ranking few))

  module _ (L : Labels (ranked_costs 6)) (closed : Closed (engine_graph (machines_of card) ranking sets) L) where
    -- no label, no best
    pub not_found : L (card_start card) ≡ none → best_of_sets card ranking sets ≡ none
    not_found l = sym six_best ∙ no_label_no_best (ranking_agrees (six_places ranking)) card sets ok bits L closed l

    -- a label is the cost of the best
    pub found : Attained (engine_graph (machines_of card) ranking sets) L → (x : Ranked 6) → L (card_start card) ≡ some x → FoundAt card ranking sets x
    found attained x l =
        let b = label_best (ranking_agrees (six_places ranking)) card sets ok bits L closed attained x l in
        record { form = b.contender; is = sym six_best ∙ b.is; profile = b.its_profile; cost = b.cost; path = b.path }

  -- the best path is the best candidate
  pub path_found : {x : Ranked 6} (f : FoundAt card ranking sets x) (c : List Pair) → IsBest (engine_graph (machines_of card) ranking sets) (card_start card) c → c ≡ f.form.candidate
  path_found f c a = best_unique (engine_graph (machines_of card) ranking sets) (card_start card) c f.form.candidate a f.path
