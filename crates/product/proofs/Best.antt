-- The best of the definition is the best path of the product from the start node, for a price that agrees with the order on profiles.
use Rattle.std.specs.Prelude.{◌≡◌, ◌∷◌, ◌≢◌, ◌<◌, ◌≤◌}
use Rattle.basics.proofs.Words.{refl, sym, ◌∙◌, ap, true, false≢true, List, [], List-as-Memᴰ, Option, some, none, Option·none-ne-some, inl, inr, ℕ, arith, length, all_of, both, left, right}
use Rattle.machine.specs.declared.Pair.{Pair}
use Rattle.machine.specs.Symbols.{is_pair}
use Rattle.machine.specs.Machine.{Machine, start_state, step_of}
use Rattle.card.specs.Card.{machines_of, card_refusal}
use Rattle.candidate.specs.Candidates.{spelled, add_marks, marks_from, marks_of, is_some, is_complete, profile_of, IsCandidate}
use Rattle.product.specs.Sets.{singletons}
use Rattle.product.specs.Best.{Contender, contender_of, ProfileOrder, same_word, pairs_over, lists_below, contenders_among, best_below, best_of, best_in}
use Rattle.product.specs.Nodes.{node_count}
use Rattle.paths.specs.Total.{Upto}
use Rattle.paths.specs.Costs.{Costs}
use Rattle.paths.specs.Graph.{path_cost}
use Rattle.paths.specs.Best.{Before, IsBest, IsBestBelow, Answers, answer_below, answer_unique}
use Rattle.product.specs.Prices.{Price, Agrees}
use Rattle.product.specs.ProductGraph.{pairs, start_node, product_graph, priced_graph, card_start}
use Rattle.product.specs.Laws.JointStep.{Sound, AllSound, all_none, all_next, marks_next, marks_stuck}
use Rattle.product.specs.Laws.Candidates.{same_word_lem, word_same, candidate_cost, CostOfCandidate, cost_candidate}
use Rattle.product.specs.Laws.Preference.{key_of}
use Rattle.product.specs.Laws.Listing.{From, from_none, from_next, over_pairs, lists_short, lists_from, short_listed, from_pairs}
use Rattle.product.proofs.Listing.{contenders_listed, listed_contenders, least_member, LeastUpto, least_upto}
use Rattle.product.specs.Laws.Accepted.{accepted_machines}
use Rattle.product.specs.Laws.CardGraph.{some_machine, start_within, word_within}

-- what a sound machine takes are pairs of the card's symbols
taken_from_lem : {S : ℕ} {m : Machine} → Sound S m → (s : ℕ) (c : List Pair) (n : ℕ) → marks_from m s c ≡ some n → all_of is_pair c ≡ true → From (pairs_over S) c
unfolding all_of
taken_from_lem a s [] n h t = from_none
taken_from_lem {S} {m} a s (p ∷ ps) n h t = go (step_of m s p) refl (λ u k l. taken_from_lem a u ps k l (right (is_pair p) (all_of is_pair ps) t))
  where
    rest : (r : ℕ × ℕ) → (o : Option ℕ) → marks_from m r.0 ps ≡ o → add_marks r.1 o ≡ some n → ((u k : ℕ) → marks_from m u ps ≡ some k → From (pairs_over S) ps) → From (pairs_over S) ps
    rest r none e q rec = absurd (Option·none-ne-some n q)
    rest r (some k) e q rec = rec r.0 k e

    go : (o : Option (ℕ × ℕ)) → step_of m s p ≡ o → ((u k : ℕ) → marks_from m u ps ≡ some k → From (pairs_over S) ps) → From (pairs_over S) (p ∷ ps)
    go none e rec = absurd (Option·none-ne-some n (sym (marks_stuck m s p ps e) ∙ h))
    go (some r) e rec =
        from_next (over_pairs S p (left (is_pair p) (all_of is_pair ps) t) (a.symbols s p r e))
        (rest r (marks_from m r.0 ps) refl (sym (marks_next m s p ps r e) ∙ h) rec)

-- so a complete candidate on one machine at least has its pairs from these
candidate_from : {S : ℕ} {ms : List Machine} → AllSound S ms → 1 ≤ length ms → (word : List ℕ) (c : List Pair) → IsCandidate ms word c → From (pairs_over S) c
unfolding is_complete all_of
candidate_from all_none h word c k = absurd (omega arith)
candidate_from {S} (all_next {m} {ms} a b) h word c k = go (marks_of c m) refl (left (is_some (marks_of c m)) (all_of (λ m. is_some (marks_of c m)) ms) k.complete)
  where
    go : (o : Option ℕ) → marks_of c m ≡ o → is_some o ≡ true → From (pairs_over S) c
    go none e t = absurd (false≢true t)
    go (some n) e t = taken_from_lem a start_state c n e k.pairs

module _ {S : ℕ} {ms : List Machine} (sound : AllSound S ms) (some_machine : 1 ≤ length ms) (word : List ℕ) (N : ℕ) where
  contenders : List Contender
  contenders = contenders_among ms word (lists_below N (pairs_over S))

  -- the short candidates, and nothing else, are among the contenders
  short_contender : (c : List Pair) → IsCandidate ms word c → length c < N → List-as-Memᴰ (contender_of ms c) contenders
  unfolding contenders
  short_contender c h k =
      listed_contenders ms word (short_listed N (pairs_over S) (candidate_from sound some_machine word c h) k)
      (both (word_same (spelled c) word h.spells) h.complete)

  pub record ContenderFacts (a : Contender) : Type 0 where
    pub candidate : IsCandidate ms word a.candidate
    pub short : length a.candidate < N
    pub is : a ≡ contender_of ms a.candidate

  contender_facts : (a : Contender) → List-as-Memᴰ a contenders → ContenderFacts a
  unfolding contenders
  contender_facts a m =
      let l = contenders_listed ms word (lists_below N (pairs_over S)) a m in
      record {
        candidate = record {
          pairs = from_pairs S (lists_from N (pairs_over S) l.listed);
          spells = same_word_lem (spelled a.candidate) word (left (same_word (spelled a.candidate) word) (is_complete ms a.candidate) l.fits);
          complete = right (same_word (spelled a.candidate) word) (is_complete ms a.candidate) l.fits;
        };
        short = lists_short N (pairs_over S) l.listed;
        is = l.is;
      }

  pub best_facts : (better : ProfileOrder) (b : Contender) → best_below N S ms better word ≡ some b → ContenderFacts b
  unfolding best_below contenders
  best_facts better b e = contender_facts b (least_member better contenders b e)

  module _ {costs : Costs} {price : Price costs} {better : ProfileOrder} (agrees : Agrees price better) where
    -- the best below the bound is the best path of fewer pairs than the bound
    pub best_below_lem : (b : Contender) → best_below N S ms better word ≡ some b → IsBestBelow (product_graph price (singletons word) ms) N (start_node ms) b.candidate
    unfolding best_below contenders
    best_below_lem b e = record {
      cost = price.of (profile_of ms b.candidate) (length b.candidate);
      is = candidate_cost price word sound b.candidate f.candidate;
      fewer = f.short;
      first = first;
    }
      where
        f : ContenderFacts b
        f = best_facts better b e

        first : (c : List Pair) (d : costs.Cost) → length c < N → c ≢ b.candidate → path_cost (product_graph price (singletons word) ms) (start_node ms) c ≡ some d
            → Before costs pairs (price.of (profile_of ms b.candidate) (length b.candidate), b.candidate) (d, c)
        first c d k n h = go l.upto
          where
            q : CostOfCandidate price word sound c d
            q = cost_candidate price word sound c d h

            l : LeastUpto price better contenders (contender_of ms c)
            l = least_upto agrees (short_contender c q.is k)

            same : l.least ≡ contender_of ms b.candidate
            same = let z : l.least ≡ b = cc (l.is, e) in z ∙ f.is

            go : Upto (Before costs pairs) (key_of price l.least) (key_of price (contender_of ms c)) → Before costs pairs (key_of price (contender_of ms b.candidate)) (d, c)
            go (inl z) = rw q.cost (rw same at z)
            go (inr z) = absurd (n (sym (ap (λ (x : costs.Cost × List Pair). x.1) z) ∙ ap (λ (a : Contender). a.candidate) same))

    pub none_below : best_below N S ms better word ≡ none → (c : List Pair) → length c < N → path_cost (product_graph price (singletons word) ms) (start_node ms) c ≡ none
    unfolding best_below contenders
    none_below e c k = go (path_cost (product_graph price (singletons word) ms) (start_node ms) c) refl
      where
        go : (o : Option costs.Cost) → path_cost (product_graph price (singletons word) ms) (start_node ms) c ≡ o → o ≡ none
        go none h = refl
        go (some d) h =
            let l = least_upto agrees (short_contender c (cost_candidate price word sound c d h).is k) in
            absurd (Option·none-ne-some l.least (sym e ∙ l.is))

-- ---- the best of a card

abbrev pub candidate_of : Option Contender → Option (List Pair)
candidate_of none = none
candidate_of (some b) = some b.candidate

module _ {costs : Costs} {price : Price costs} {better : ProfileOrder} (agrees : Agrees price better) (card word : List ℕ) (ok : card_refusal card ≡ 0) where
  -- the best of the definition is the product's answer from the start node
  pub best_answers : Answers (priced_graph price card (singletons word)) (card_start card) (candidate_of (best_in better card word))
  unfolding best_in best_of
  best_answers = answer_below (priced_graph price card (singletons word)) (word_within card word ok price) (card_start card) (start_within card word ok) (candidate_of (best_in better card word)) (go (best_in better card word) refl) (not_there (best_in better card word) refl)
    where
      go : (o : Option Contender) → best_in better card word ≡ o → (ps : List Pair) → candidate_of o ≡ some ps → IsBestBelow (priced_graph price card (singletons word)) (node_count (machines_of card) (length word)) (card_start card) ps
      go none e ps h = absurd (Option·none-ne-some ps h)
      go (some b) e ps h = let q : b.candidate ≡ ps = cc in rw q at (best_below_lem (accepted_machines card ok).sound (some_machine card ok) word (node_count (machines_of card) (length word)) agrees b e)

      not_there : (o : Option Contender) → best_in better card word ≡ o → candidate_of o ≡ none → (ps : List Pair) → length ps < node_count (machines_of card) (length word) → path_cost (priced_graph price card (singletons word)) (card_start card) ps ≡ none
      not_there none e h ps k = none_below (accepted_machines card ok).sound (some_machine card ok) word (node_count (machines_of card) (length word)) agrees e ps k
      not_there (some b) e h ps k = absurd (Option·none-ne-some b.candidate (sym h))

  -- with its profile
  pub best_contender : (b : Contender) → best_in better card word ≡ some b → b ≡ contender_of (machines_of card) b.candidate
  unfolding best_in best_of
  best_contender b e = (best_facts (accepted_machines card ok).sound (some_machine card ok) word (node_count (machines_of card) (length word)) better b e).is

  -- so an engine has only to show that its answer is the product's
  pub answer_best : (o : Option (List Pair)) → Answers (priced_graph price card (singletons word)) (card_start card) o → candidate_of (best_in better card word) ≡ o
  answer_best o a = answer_unique (priced_graph price card (singletons word)) (card_start card) (candidate_of (best_in better card word)) o best_answers a

  pub is_the_best : (c : List Pair) → IsBest (priced_graph price card (singletons word)) (card_start card) c → best_in better card word ≡ some (contender_of (machines_of card) c)
  is_the_best c a = go (best_in better card word) refl (answer_best (some c) answers)
    where
      answers : Answers (priced_graph price card (singletons word)) (card_start card) (some c)
      answers = record { best = λ ps e. let q : c ≡ ps = cc in rw q at a; no_path = λ e. absurd (Option·none-ne-some c (sym e)) }

      go : (o : Option Contender) → best_in better card word ≡ o → candidate_of o ≡ some c → best_in better card word ≡ some (contender_of (machines_of card) c)
      go none e h = absurd (Option·none-ne-some c h)
      go (some b) e h = let q : b.candidate ≡ c = cc in e ∙ ap {B = Option Contender} some (best_contender b e ∙ ap (contender_of (machines_of card)) q)

  pub there_is_none : ((c : List Pair) → path_cost (priced_graph price card (singletons word)) (card_start card) c ≡ none) → best_in better card word ≡ none
  there_is_none f = go (best_in better card word) refl (answer_best none answers)
    where
      answers : Answers (priced_graph price card (singletons word)) (card_start card) none
      answers = record { best = λ ps e. absurd (Option·none-ne-some ps e); no_path = λ e. f }

      go : (o : Option Contender) → best_in better card word ≡ o → candidate_of o ≡ none → o ≡ none
      go none e h = refl
      go (some b) e h = absurd (Option·none-ne-some b.candidate (sym h))
