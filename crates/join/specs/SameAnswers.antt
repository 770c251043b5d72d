-- Both engines answer alike on a card and on the one with two of its machines joined, one of them without marks. It is said of the calls' contracts,
-- `Optimizes` for a word and `OptimizesSets` for sets, which both engines have: either call may be either engine's. Assumes nothing.
use Rattle.std.specs.Prelude.{◌≡◌, ◌↔◌, ◌*◌}
use Rattle.basics.specs.Words.{sym, ap, subst, ◌∙◌, true, List, Option, some, ℕ, arith, length, lit<, ℕ_discrete}
use Rattle.refusals.specs.Refusals.{refuse}
use Rattle.refusals.proofs.Refusals.{passed, passes_with}
use Rattle.machine.specs.declared.Pair.{Pair}
use Rattle.machine.specs.Machine.{Machine}
use Rattle.ranking.specs.Rankings.{is_ranking}
use Rattle.card.specs.Layout.{machine_count, symbol_count}
use Rattle.card.specs.Card.{machines_of}
use Rattle.candidate.specs.declared.Evaluation.{Evaluation}
use Rattle.candidate.specs.Candidates.{profile_of}
use Rattle.product.specs.Nodes.{node_count}
use Rattle.product.specs.Best.{Contender, ProfileOrder, contender_of}
use Rattle.product.specs.Answering.{before_search}
use Rattle.product.specs.Optimizing.{sound_word, input_refusal}
use Rattle.product.specs.OptimizingSets.{sets_refusal, sets_input_refusal}
use Rattle.product.specs.BestCandidate.{IsBestBy, Beats, IsBestCandidate, IsBestOfSets}
use Rattle.product.specs.Searches.{Searches}
use Rattle.product.proofs.Searches.{of_word, of_sets}
use Rattle.product.specs.Laws.Accepted.{accepted_machines}
use Rattle.input.specs.AcceptedInput.{Passes, passes, passes_all, accepted_input, accepted_sets_input, accepted_bits}
use Rattle.optimizer.specs.Optimizes.{Optimizes, OptimizesSets}
use Rattle.optimizer.specs.Demands.{AnswersBest, Demands}
use Rattle.optimizer.specs.Demand3.{demand_3, demand_3_sets}
use Rattle.join.specs.Merged.{merged_counts}
use Rattle.join.specs.JoinedRanking.{joined_ranking}
use Rattle.join.specs.JoinedCard.{lower, other, joining, joining_refusal}
use Rattle.join.specs.Writing.{CardJoins}
use Rattle.join.specs.BestJoined.{Unmarked, TwoCards, same_nodes, added_profile, new_ranking_lem, same_meant, same_best, old_best}
use Rattle.join.specs.JoinedCardTheorem.{CardJoined, joining_joins, joining_card}

-- two answers from one answer slice, by machines and by the same with i and j joined, and by what it is for a candidate to be the best
pub record SameAnswers (i j : ℕ) (ms new : List Machine) (Best NewBest : List Pair → Type 0) (word answer after newAfter : List ℕ) (r s : Evaluation) : Type 0 where
  -- there is none on the one exactly when there is none on the other, and so with too short an answer slice, and with an answer
  pub none_too : (s.number ≡ 10) ↔ (r.number ≡ 10)
  pub room_too : (s.number ≡ 12) ↔ (r.number ≡ 12)
  pub best_too : (s.number ≡ 0) ↔ (r.number ≡ 0)
  -- the answer slices at exit are the same
  pub slice : newAfter ≡ after
  -- and so is the candidate; its profile is the old one with the two counts added
  pub answered : r.number ≡ 0 → (c : List Pair) × AnswersBest ms Best word answer after r c × AnswersBest new NewBest word answer newAfter s c × (profile_of new c ≡ merged_counts i j (profile_of ms c))

-- ---- where the joined machine is ranked in the place of the one with marks

module _ {i j u : ℕ} {card new : List ℕ} (joins : CardJoins card i j) (joined : CardJoined i j card new) (unmarked : Unmarked i j u (machines_of card)) where
  two : TwoCards i j card new
  two = record {
    first_accepted = joins.accepted;
    order = joins.may.order;
    within = omega (arith, joins.may.within, (accepted_machines card joins.accepted).count);
    second_accepted = joined.accepts;
    symbols = joined.symbols;
    machines = joined.machines;
  }

  -- input that the checks accept they accept on the new card, with a work slice as long
  passes_too : (ranking : List ℕ) (w : ℕ → ℕ) (k room : ℕ) → before_search card (refuse 7 (is_ranking (machine_count card) ranking)) (w (symbol_count card)) (8 * node_count (machines_of card) k) room ≡ 0
      → before_search new (refuse 7 (is_ranking (machine_count new) (joined_ranking i j u ranking))) (w (symbol_count new)) (8 * node_count (machines_of new) k) room ≡ 0
  passes_too ranking w k room e =
      let t = is_ranking (machine_count card) ranking in
      let p = passes card (refuse 7 t) (w (symbol_count card)) (8 * node_count (machines_of card) k) room e in
      let q : Passes new (refuse 7 (is_ranking (machine_count new) (joined_ranking i j u ranking))) (w (symbol_count new)) (8 * node_count (machines_of new) k) room = record {
        accepted = joined.accepts;
        order = passes_with 7 (new_ranking_lem two unmarked ranking (passed 7 t (lit< tt) p.order));
        word = ap w joined.symbols ∙ p.word;
        nodes_fit = rw (same_nodes two k) p.nodes_fit;
      } in
      passes_all q

  pub input_too : (ranking word : List ℕ) (room : ℕ) → input_refusal card ranking word room ≡ 0 → input_refusal new (joined_ranking i j u ranking) word room ≡ 0
  unfolding input_refusal
  input_too ranking word room = passes_too ranking (λ S. refuse 8 (sound_word S word)) (length word) room

  pub sets_input_too : (ranking sets : List ℕ) (room : ℕ) → sets_input_refusal card ranking sets room ≡ 0 → sets_input_refusal new (joined_ranking i j u ranking) sets room ≡ 0
  unfolding sets_input_refusal
  sets_input_too ranking sets room = passes_too ranking (λ S. sets_refusal S sets) (length sets) room

  -- both answers, whatever is asked for, from what demand 3 says of each
  module _ {Meant : List Machine → List Pair → Type 0} {bestOn : ProfileOrder → List ℕ → Option Contender} (asked : Searches Meant bestOn) {ranking word answer after newAfter : List ℕ} {r s : Evaluation}
      (is : is_ranking (machine_count card) ranking ≡ true)
      (old : Demands (machines_of card) (Meant (machines_of card)) (IsBestBy (Beats ranking (machines_of card)) (Meant (machines_of card))) word answer after r)
      (there : Demands (machines_of new) (Meant (machines_of new)) (IsBestBy (Beats (joined_ranking i j u ranking) (machines_of new)) (Meant (machines_of new))) word answer newAfter s)
    where
      abbrev Best : List Pair → Type 0
      Best = IsBestBy (Beats ranking (machines_of card)) (Meant (machines_of card))

      abbrev NewBest : List Pair → Type 0
      NewBest = IsBestBy (Beats (joined_ranking i j u ranking) (machines_of new)) (Meant (machines_of new))

      bests : (c : List Pair) → NewBest c ↔ Best c
      bests = same_best two unmarked asked ranking

      -- there is one best candidate
      only_one : (c d : List Pair) → Best c → Best d → c ≡ d
      only_one c d hc hd =
          let all = old_best two unmarked asked ranking is in
          let q : some (contender_of (machines_of card) c) ≡ some (contender_of (machines_of card) d) = sym (all.only_it c hc) ∙ all.only_it d hd in
          let z : contender_of (machines_of card) c ≡ contender_of (machines_of card) d = cc in
          ap (λ (b : Contender). b.candidate) z

      best_new : r.number ≡ 0 → s.number ≡ 0
      best_new e = let t = old.best_exactly.0 e in there.best_exactly.1 (t.0, (bests t.0).1 t.1, t.2)

      best_old : s.number ≡ 0 → r.number ≡ 0
      best_old e = let t = there.best_exactly.0 e in old.best_exactly.1 (t.0, (bests t.0).0 t.1, t.2)

      -- the candidate that the new card's answer is, is the old one's too
      both_answered : r.number ≡ 0 → (c : List Pair) × AnswersBest (machines_of card) Best word answer after r c × AnswersBest (machines_of new) NewBest word answer newAfter s c × (profile_of (machines_of new) c ≡ merged_counts i j (profile_of (machines_of card) c))
      both_answered e =
          let a = old.answered e in
          let b = there.answered (best_new e) in
          let q : b.0 ≡ a.0 = only_one b.0 a.0 ((bests b.0).0 b.1.is_best) a.1.is_best in
          (a.0, a.1, subst (λ (c : List Pair). AnswersBest (machines_of new) NewBest word answer newAfter s c) q b.1, added_profile two a.0 (asked.candidate a.1.is_best.candidate).1)

      same_slice : Dec (r.number ≡ 0) → newAfter ≡ after
      same_slice (yes e) = let t = both_answered e in t.2.bytes ∙ sym t.1.bytes
      same_slice (no n) = there.untouched (λ e. n (best_old e)) ∙ sym (old.untouched n)

      pub same_answers : SameAnswers i j (machines_of card) (machines_of new) Best NewBest word answer after newAfter r s
      same_answers = record {
        none_too = (
          λ e. old.none_exactly.1 (λ c h. there.none_exactly.0 e c ((same_meant two unmarked asked c).1 h)),
          λ e. there.none_exactly.1 (λ c h. old.none_exactly.0 e c ((same_meant two unmarked asked c).0 h)),
        );
        room_too = (
          λ e. let t = there.room_exactly.0 e in old.room_exactly.1 (t.0, (bests t.0).0 t.1, t.2),
          λ e. let t = old.room_exactly.0 e in there.room_exactly.1 (t.0, (bests t.0).1 t.1, t.2),
        );
        best_too = (best_old, best_new);
        slice = same_slice (ℕ_discrete r.number 0);
        answered = both_answered;
      }

-- ---- of what joining answers: where nothing is refused, the new card gives the same answers

module _ (card : List ℕ) (a b room : ℕ) (ok : joining_refusal card a b room ≡ 0) (u : ℕ) (unmarked : Unmarked (lower a b) (other a b) u (machines_of card)) (ranking : List ℕ) where
  abbrev new : List ℕ
  new = joining card a b

  abbrev new_ranking : List ℕ
  new_ranking = joined_ranking (lower a b) (other a b) u ranking

  pub join_keeps_answers : {word work workAfter newWork newWorkAfter answer after newAfter : List ℕ} {r s : Evaluation}
      → Optimizes card ranking word work workAfter answer after r → Optimizes new new_ranking word newWork newWorkAfter answer newAfter s
      → input_refusal card ranking word (length work) ≡ 0 → input_refusal new new_ranking word (length newWork) ≡ 0
      → SameAnswers (lower a b) (other a b) (machines_of card) (machines_of new) (IsBestCandidate ranking (machines_of card) word) (IsBestCandidate new_ranking (machines_of new) word) word answer after newAfter r s
  join_keeps_answers {word} {work} here there e e' =
      same_answers (joining_joins card a b room ok) (joining_card card a b room ok) unmarked (of_word word) (accepted_input card ranking word (length work) e).ranks
      (demand_3 card ranking here e) (demand_3 new new_ranking there e')

  pub join_keeps_answers_sets : {sets work workAfter newWork newWorkAfter answer after newAfter : List ℕ} {r s : Evaluation}
      → OptimizesSets card ranking sets work workAfter answer after r → OptimizesSets new new_ranking sets newWork newWorkAfter answer newAfter s
      → sets_input_refusal card ranking sets (length work) ≡ 0 → sets_input_refusal new new_ranking sets (length newWork) ≡ 0
      → SameAnswers (lower a b) (other a b) (machines_of card) (machines_of new) (IsBestOfSets ranking (machines_of card) sets) (IsBestOfSets new_ranking (machines_of new) sets) sets answer after newAfter r s
  join_keeps_answers_sets {sets} {work} here there e e' =
      let i = accepted_sets_input card ranking sets (length work) e in
      same_answers (joining_joins card a b room ok) (joining_card card a b room ok) unmarked (of_sets sets (accepted_bits i)) i.ranks
      (demand_3_sets card ranking here e) (demand_3_sets new new_ranking there e')
