-- The theorem on the best candidate, over the definitions alone: the definition looks at lists of fewer pairs than there are nodes, and what it
-- finds is the best of the lists of any length. It holds for every accepted card, every ranking and every word, the empty one too.
use Rattle.std.specs.Prelude.{◌≡◌}
use Rattle.basics.specs.Words.{refl, sym, ◌∙◌, ap, true, List, Option, some, none, Option·none-ne-some, ℕ}
use Rattle.machine.specs.declared.Pair.{Pair}
use Rattle.machine.specs.Machine.{Machine}
use Rattle.ranking.specs.Rankings.{is_ranking}
use Rattle.card.specs.Layout.{machine_count}
use Rattle.card.specs.Card.{machines_of, card_refusal}
use Rattle.candidate.specs.Candidates.{profile_of, IsCandidate}
use Rattle.product.specs.Sets.{singletons}
use Rattle.product.specs.Best.{Contender, contender_of, ProfileOrder, best_in, best}
use Rattle.paths.specs.Total.{lex_total, same?, asym}
use Rattle.paths.specs.Costs.{Costs}
use Rattle.paths.specs.Graph.{path_cost}
use Rattle.paths.specs.Best.{before_total, IsBest}
use Rattle.product.specs.Prices.{Price, Agrees, ranking_agrees}
use Rattle.product.specs.ProductGraph.{pairs, priced_graph, card_graph, card_start}
use Rattle.product.specs.BestCandidate.{BeatsIn, BeatsOn, IsBestIn, BestOf}
use Rattle.product.specs.Laws.Candidates.{candidate_cost, cost_candidate}
use Rattle.product.specs.Laws.Accepted.{accepted_machines}
use Rattle.product.specs.Laws.Preference.{key_of, beats_earlier}
use Rattle.product.proofs.Best.{candidate_of, best_answers, best_contender, is_the_best, there_is_none}
use Rattle.product.specs.Laws.BestCandidate.{best_of_ranked, path_best_in, best_in_path}
use Rattle.product.specs.BestTheorem.{beats_alike, BestOfAll}

-- ---- in an order on profiles, with a price that agrees with it

module _ {costs : Costs} {price : Price costs} {better : ProfileOrder} (agrees : Agrees price better) (card word : List ℕ) (ok : card_refusal card ≡ 0) where
  -- the best of the definition is the best of the lists of pairs of any length
  pub best_in_is_best_of_all : BestOf (machines_of card) (BeatsOn better (machines_of card)) (IsCandidate (machines_of card) word) (best_in better card word)
  best_in_is_best_of_all = record { none_exactly = (nothing, empty); is_best = best_one; its_profile = profile; only_it = only }
    where
      nothing : best_in better card word ≡ none → (c : List Pair) → ¬ (IsCandidate (machines_of card) word c)
      nothing e c h =
          let q = (best_answers agrees card word ok).no_path (ap candidate_of e) c in
          Option·none-ne-some _ (sym q ∙ candidate_cost price word (accepted_machines card ok).sound c h)

      empty : ((c : List Pair) → ¬ (IsCandidate (machines_of card) word c)) → best_in better card word ≡ none
      empty f = there_is_none agrees card word ok (λ c. go c (path_cost (priced_graph price card (singletons word)) (card_start card) c) refl)
        where
          go : (c : List Pair) (o : Option _) → path_cost (priced_graph price card (singletons word)) (card_start card) c ≡ o → o ≡ none
          go c none h = refl
          go c (some x) h = absurd (f c (cost_candidate price word (accepted_machines card ok).sound c x h).is)

      best_one : (b : Contender) → best_in better card word ≡ some b → IsBestIn better (machines_of card) (IsCandidate (machines_of card) word) b.candidate
      best_one b e = path_best_in agrees (accepted_machines card ok).sound word b.candidate ((best_answers agrees card word ok).best b.candidate (ap candidate_of e))

      profile : (b : Contender) → best_in better card word ≡ some b → b.profile ≡ profile_of (machines_of card) b.candidate
      profile b e = ap (λ (a : Contender). a.profile) (best_contender agrees card word ok b e)

      only : (c : List Pair) → IsBestIn better (machines_of card) (IsCandidate (machines_of card) word) c → best_in better card word ≡ some (contender_of (machines_of card) c)
      only c a = is_the_best agrees card word ok c (best_in_path agrees (accepted_machines card ok).sound word c a)

-- two orders that compare their two bests alike have one best
module _ {costs costs' : Costs} {price : Price costs} {price' : Price costs'} {better better' : ProfileOrder} (agrees : Agrees price better) (agrees' : Agrees price' better') where
  pub same_best : (card word : List ℕ) → card_refusal card ≡ 0 → (a b : Contender) → best_in better card word ≡ some a → best_in better' card word ≡ some b
      → better a.profile b.profile ≡ better' a.profile b.profile → better b.profile a.profile ≡ better' b.profile a.profile → a ≡ b
  same_best card word ok a b ea eb p q = go (same? (lex_total pairs.◌◃◌ pairs.total) a.candidate b.candidate)
    where
      ms : List Machine
      ms = machines_of card

      one : a ≡ contender_of ms a.candidate
      one = best_contender agrees card word ok a ea

      other : b ≡ contender_of ms b.candidate
      other = best_contender agrees' card word ok b eb

      go : Dec (a.candidate ≡ b.candidate) → a ≡ b
      go (yes e) = one ∙ ap (contender_of ms) e ∙ sym other
      go (no n) =
          let x = (best_in_is_best_of_all agrees card word ok).is_best a ea in
          let y = (best_in_is_best_of_all agrees' card word ok).is_best b eb in
          let ab : BeatsIn better a b = rw (one, other) (x.rivals b.candidate y.candidate (λ e. n (sym e))) in
          let ba : BeatsIn better' b a = rw (one, other) (y.rivals a.candidate x.candidate n) in
          absurd (asym (before_total costs' pairs) (key_of price' a) (key_of price' b) (beats_earlier agrees' a b (beats_alike p q ab)) (beats_earlier agrees' b a ba))

pub best_is_best_of_all : (card ranking word : List ℕ) → card_refusal card ≡ 0 → is_ranking (machine_count card) ranking ≡ true → BestOfAll card ranking word
unfolding best
best_is_best_of_all card r word ok is = best_of_ranked r (rw (accepted_machines card ok).count is) (best_in_is_best_of_all (ranking_agrees r) card word ok)

-- how an engine shows that it found it: its answer is the best path of the product, or the product has no path
pub best_path_is_best : (card ranking word : List ℕ) → card_refusal card ≡ 0 → (c : List Pair) → IsBest (card_graph card ranking word) (card_start card) c
    → best card ranking word ≡ some (record { candidate = c; profile = profile_of (machines_of card) c })
unfolding best
best_path_is_best card r word ok = is_the_best (ranking_agrees r) card word ok

pub no_path_no_best : (card ranking word : List ℕ) → card_refusal card ≡ 0 → ((c : List Pair) → path_cost (card_graph card ranking word) (card_start card) c ≡ none) → best card ranking word ≡ none
unfolding best
no_path_no_best card r word ok = there_is_none (ranking_agrees r) card word ok
