-- The theorem on the best over sets: what the definition finds is the best of the candidates, however long, for all words with one symbol from
-- each set. It holds for every accepted card, every order on profiles with a price that agrees with it, and every list of 64-bit numbers as sets,
-- the empty one too.
use Rattle.std.specs.Prelude.{◌≡◌, ◌≢◌}
use Rattle.basics.specs.Words.{refl, sym, ◌∙◌, ap, true, List, Option, some, none, Option·none-ne-some, inl, inr, ℕ, ltb, all_of}
use Rattle.machine.specs.declared.Pair.{Pair}
use Rattle.machine.specs.Machine.{Machine}
use Rattle.ranking.specs.Rankings.{is_ranking}
use Rattle.card.specs.Layout.{machine_count}
use Rattle.card.specs.Card.{machines_of, card_refusal}
use Rattle.candidate.specs.Candidates.{profile_of, IsCandidate}
use Rattle.product.specs.Best.{Contender, contender_of, ProfileOrder, best_in, best}
use Rattle.product.specs.Sets.{singletons, are64_bits, IsCandidateOf, best_of_sets_in, best_of_sets}
use Rattle.paths.specs.Total.{Upto}
use Rattle.paths.specs.Costs.{Costs}
use Rattle.paths.specs.Graph.{path_cost}
use Rattle.paths.specs.Best.{Before, IsBest, best_unique}
use Rattle.product.specs.Prices.{Price, Agrees, ranking_agrees}
use Rattle.product.specs.ProductGraph.{pairs, priced_graph, card_start}
use Rattle.product.specs.BestCandidate.{BeatsIn, BeatsOn, IsBestIn, BestOf}
use Rattle.product.specs.BestTheorem.{beats_alike}
use Rattle.product.proofs.BestTheorem.{best_in_is_best_of_all}
use Rattle.product.specs.Laws.Candidates.{fitting_cost, as_sets, as_word}
use Rattle.product.specs.Laws.Preference.{key_of, earlier_beats}
use Rattle.product.specs.Laws.Accepted.{accepted_machines}
use Rattle.product.proofs.Best.{best_contender}
use Rattle.product.specs.Laws.BestCandidate.{best_of_ranked, path_best_of_sets, best_of_sets_path}
use Rattle.product.specs.Laws.BestOfSets.{singletons_64}
use Rattle.product.proofs.BestOfSets.{BestForOne, best_for_one, BestUpto, best_upto}
use Rattle.product.specs.SetsTheorem.{BestOfAllWords}

-- ---- in an order on profiles, with a price that agrees with it

module _ {costs : Costs} {price : Price costs} {better : ProfileOrder} (agrees : Agrees price better) (card sets : List ℕ) (ok : card_refusal card ≡ 0) where
  pub best_of_sets_contender : (b : Contender) → best_of_sets_in better card sets ≡ some b → b ≡ contender_of (machines_of card) b.candidate
  best_of_sets_contender b e = let o = best_for_one better card sets b e in best_contender agrees card o.word ok b o.is_best

  module _ (bits : are64_bits sets ≡ true) where
    best_one : (b : Contender) → best_of_sets_in better card sets ≡ some b → IsBestIn better (machines_of card) (IsCandidateOf (machines_of card) sets) b.candidate
    best_one b e = record { candidate = record { word = o.word; fits = o.fits; is = ((best_in_is_best_of_all agrees card o.word ok).is_best b o.is_best).candidate }; rivals = rivals }
      where
        ms : List Machine
        ms = machines_of card

        o : BestForOne better card sets b
        o = best_for_one better card sets b e

        rivals : (d : List Pair) → IsCandidateOf ms sets d → d ≢ b.candidate → BeatsIn better (contender_of ms b.candidate) (contender_of ms d)
        rivals d h n = go l.upto
          where
            l : BestUpto price better card sets d
            l = best_upto agrees card ok sets bits d h

            same : l.least ≡ contender_of ms b.candidate
            same = let z : l.least ≡ b = cc (l.is, e) in z ∙ best_of_sets_contender b e

            go : Upto (Before costs pairs) (key_of price l.least) (key_of price (contender_of ms d)) → BeatsIn better (contender_of ms b.candidate) (contender_of ms d)
            go (inl k) = earlier_beats agrees (contender_of ms b.candidate) (contender_of ms d) (rw same at k)
            go (inr k) = absurd (n (sym (ap (λ (x : costs.Cost × List Pair). x.1) k) ∙ ap (λ (a : Contender). a.candidate) same))

    -- the best path of the product over the sets is it, and without a path there is none: how an engine shows that it found it
    pub best_path_is_best_of_sets : (c : List Pair) → IsBest (priced_graph price card sets) (card_start card) c → best_of_sets_in better card sets ≡ some (contender_of (machines_of card) c)
    best_path_is_best_of_sets c a =
        let sound = (accepted_machines card ok).sound in
        let l = best_upto agrees card ok sets bits c (path_best_of_sets agrees sound sets c a).candidate in
        let q = best_unique (priced_graph price card sets) (card_start card) l.least.candidate c (best_of_sets_path agrees sound sets l.least.candidate (best_one l.least l.is)) a in
        l.is ∙ ap {B = Option Contender} some (best_of_sets_contender l.least l.is ∙ ap (contender_of (machines_of card)) q)

    pub no_path_no_best_of_sets : ((c : List Pair) → path_cost (priced_graph price card sets) (card_start card) c ≡ none) → best_of_sets_in better card sets ≡ none
    no_path_no_best_of_sets f = go (best_of_sets_in better card sets) refl
      where
        go : (o : Option Contender) → best_of_sets_in better card sets ≡ o → o ≡ none
        go none e = refl
        go (some b) e = absurd (Option·none-ne-some _ (sym (f b.candidate) ∙ fitting_cost price sets (accepted_machines card ok).sound b.candidate (best_one b e).candidate))

    pub best_in_is_best_of_all_words : BestOf (machines_of card) (BeatsOn better (machines_of card)) (IsCandidateOf (machines_of card) sets) (best_of_sets_in better card sets)
    best_in_is_best_of_all_words = record {
      none_exactly = (λ e c h. let l = best_upto agrees card ok sets bits c h in Option·none-ne-some l.least (sym e ∙ l.is), nothing (best_of_sets_in better card sets) refl);
      is_best = best_one;
      its_profile = λ b e. ap (λ (a : Contender). a.profile) (best_of_sets_contender b e);
      only_it = λ c a. best_path_is_best_of_sets c (best_of_sets_path agrees (accepted_machines card ok).sound sets c a);
    }
      where
        nothing : (o : Option Contender) → best_of_sets_in better card sets ≡ o → ((c : List Pair) → ¬ (IsCandidateOf (machines_of card) sets c)) → o ≡ none
        nothing none e f = refl
        nothing (some b) e f = absurd (f b.candidate (best_one b e).candidate)

-- sets of one symbol each: the best for the word
pub best_in_of_one_word : {costs : Costs} {price : Price costs} {better : ProfileOrder} → Agrees price better → (card word : List ℕ) → card_refusal card ≡ 0 → all_of (λ x. ltb x 64) word ≡ true
    → best_of_sets_in better card (singletons word) ≡ best_in better card word
best_in_of_one_word {better = better} agrees card word ok small = go (best_in better card word) refl
  where
    ms : List Machine
    ms = machines_of card

    all : BestOf ms (BeatsOn better ms) (IsCandidate ms word) (best_in better card word)
    all = best_in_is_best_of_all agrees card word ok

    sets : BestOf ms (BeatsOn better ms) (IsCandidateOf ms (singletons word)) (best_of_sets_in better card (singletons word))
    sets = best_in_is_best_of_all_words agrees card (singletons word) ok (singletons_64 word small)

    go : (o : Option Contender) → best_in better card word ≡ o → best_of_sets_in better card (singletons word) ≡ o
    go none e = sets.none_exactly.1 (λ c h. all.none_exactly.0 e c (as_word word c h))
    go (some b) e =
        let a = all.is_best b e in
        sets.only_it b.candidate (record { candidate = as_sets word b.candidate a.candidate; rivals = λ d h. a.rivals d (as_word word d h) })
        ∙ ap {B = Option Contender} some (sym (best_contender agrees card word ok b e))

-- orders that compare the profiles of candidates alike have one best
pub same_order : {costs costs' : Costs} {price : Price costs} {price' : Price costs'} {better better' : ProfileOrder} → Agrees price better → Agrees price' better' → (card sets : List ℕ) → card_refusal card ≡ 0 → are64_bits sets ≡ true
    → ((c d : List Pair) → better (profile_of (machines_of card) c) (profile_of (machines_of card) d) ≡ better' (profile_of (machines_of card) c) (profile_of (machines_of card) d)) → best_of_sets_in better card sets ≡ best_of_sets_in better' card sets
same_order {better = better} {better' = better'} agrees agrees' card sets ok bits same = go (best_of_sets_in better card sets) refl
  where
    ms : List Machine
    ms = machines_of card

    all : BestOf ms (BeatsOn better ms) (IsCandidateOf ms sets) (best_of_sets_in better card sets)
    all = best_in_is_best_of_all_words agrees card sets ok bits

    all' : BestOf ms (BeatsOn better' ms) (IsCandidateOf ms sets) (best_of_sets_in better' card sets)
    all' = best_in_is_best_of_all_words agrees' card sets ok bits

    go : (o : Option Contender) → best_of_sets_in better card sets ≡ o → o ≡ best_of_sets_in better' card sets
    go none e = sym (all'.none_exactly.1 (all.none_exactly.0 e))
    go (some b) e =
        let k = all.is_best b e in
        let a : IsBestIn better' ms (IsCandidateOf ms sets) b.candidate = record { candidate = k.candidate; rivals = λ d h n. beats_alike (same b.candidate d) (same d b.candidate) (k.rivals d h n) } in
        ap {B = Option Contender} some (best_of_sets_contender agrees card sets ok b e) ∙ sym (all'.only_it b.candidate a)

pub best_is_best_of_all_words : (card ranking sets : List ℕ) → card_refusal card ≡ 0 → is_ranking (machine_count card) ranking ≡ true → are64_bits sets ≡ true → BestOfAllWords card ranking sets
unfolding best_of_sets
best_is_best_of_all_words card r sets ok is bits = best_of_ranked r (rw (accepted_machines card ok).count is) (best_in_is_best_of_all_words (ranking_agrees r) card sets ok bits)

pub best_of_one_word : (card ranking word : List ℕ) → card_refusal card ≡ 0 → all_of (λ x. ltb x 64) word ≡ true → best_of_sets card ranking (singletons word) ≡ best card ranking word
unfolding best_of_sets best
best_of_one_word card r word ok small = best_in_of_one_word (ranking_agrees r) card word ok small
