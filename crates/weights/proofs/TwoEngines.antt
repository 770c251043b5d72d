-- The two engines, of what their calls answer: where both answer for one card and word, all weights are above zero and each is more than c times the
-- sum of those ranked below it, c being the largest count in the two profiles, they give the same candidate and profile. (That all weights are above
-- zero follows from the rest.)
use Rattle.std.specs.Prelude.{◌≡◌, ◌∷◌, ◌++◌, ◌*◌, ◌-◌}
use Rattle.basics.specs.Words.{refl, sym, ◌∙◌, ap, ap₂, List, [], some, ℕ, zero, suc, max, length, take, drop, replicate, take_at}
use Rattle.machine.specs.declared.Pair.{Pair}
use Rattle.ranking.specs.declared.Profile.{Profile}
use Rattle.card.specs.Layout.{machine_count}
use Rattle.card.specs.Card.{machines_of}
use Rattle.candidate.specs.declared.Evaluation.{Evaluation}
use Rattle.candidate.specs.Candidates.{bytes_of, profile_of}
use Rattle.candidate.specs.Evaluating.{profile_with}
use Rattle.product.specs.Best.{Contender, contender_of, best}
use Rattle.product.proofs.BestTheorem.{best_is_best_of_all}
use Rattle.product.specs.BestCandidate.{IsBestCandidate}
use Rattle.product.specs.Laws.Preference.{length_bytes}
use Rattle.input.specs.AcceptedInput.{AcceptedInput, accepted_input}
use Rattle.optimizer.specs.Optimizes as ranked
use Rattle.optimizer.specs.Demands.{AnswersBest, answered_accepts}
use Rattle.optimizer.specs.Demand3 as ranked-demand
use Rattle.product.specs.Weights.{best_by_weights}
use Rattle.product.specs.Dominance.{Outweighs}
use Rattle.product.specs.Laws.SoundWeights.{weighs}
use Rattle.weights.specs.declared.Weighing.{Weighing}
use Rattle.weights.specs.WeightedBest.{IsBestByWeights, weighted_best_is_best_of_all}
use Rattle.weights.specs.Agreement.{largest, agreement}
use Rattle.weights.specs.Searching.{Optimizes}
use Rattle.weights.specs.Accepting.{Accepts}
use Rattle.weights.proofs.Accepting.{accepts}
use Rattle.weights.specs.Demand3.{Demand3}
use Rattle.weights.proofs.Demand3 as weighted-demand
use Rattle.weights.specs.TwoEngines.{SameAnswer}

-- the zeros past the last machine are not the largest count
largest_zeros : (n : ℕ) → largest (replicate n 0) ≡ 0
unfolding largest
largest_zeros zero = refl
largest_zeros (suc n) = rw (largest_zeros n)

with_zeros : (v : List ℕ) (n : ℕ) → largest (v ++ replicate n 0) ≡ largest v
unfolding largest
with_zeros [] n = largest_zeros n
with_zeros (x ∷ v) n = rw (with_zeros v n)

module _ (ranking : List ℕ) {card weights word work workAfter answer after work' workAfter' answer' after' : List ℕ} {r : Evaluation} {s : Weighing} where
  pub two_engines : ranked.Optimizes card ranking word work workAfter answer after r → Optimizes card weights word work' workAfter' answer' after' s
      → r.number ≡ 0 → s.evaluation.number ≡ 0
      → Outweighs (max (largest r.profile.counts) (largest s.evaluation.profile.counts)) weights ranking
      → SameAnswer after after' r s
  two_engines A B a b d = same (D.answered a) (E.demands.answered b)
    where
      ra : AcceptedInput card ranking word (length work)
      ra = accepted_input card ranking word (length work) (answered_accepts A a)

      wa : Accepts card weights word (length work')
      wa = accepts card weights word (length work') (answered_accepts B.answers b)

      D : ranked-demand.Demand3 card ranking word answer after r
      D = ranked-demand.demand_3 card ranking A (answered_accepts A a)

      E : Demand3 card weights word answer' after' s
      E = weighted-demand.demand_3 B (answered_accepts B.answers b)

      same : (c : List Pair) × AnswersBest (machines_of card) (IsBestCandidate ranking (machines_of card) word) word answer after r c → (c : List Pair) × AnswersBest (machines_of card) (IsBestByWeights weights (machines_of card) word) word answer' after' s.evaluation c → SameAnswer after after' r s
      same p q = record {
        profile = Q.profile ∙ ap (λ (c : List Pair). profile_with (profile_of (machines_of card) c)) e ∙ sym P.profile;
        pairs = Q.pairs ∙ ap length e ∙ sym P.pairs;
        candidate = front q.0 (drop (2 * length q.0) answer') Q.pairs Q.bytes ∙ ap bytes_of e ∙ sym (front p.0 (drop (2 * length p.0) answer) P.pairs P.bytes);
      }
        where
          P : AnswersBest (machines_of card) (IsBestCandidate ranking (machines_of card) word) word answer after r p.0
          P = p.1

          Q : AnswersBest (machines_of card) (IsBestByWeights weights (machines_of card) word) word answer' after' s.evaluation q.0
          Q = q.1

          one : best card ranking word ≡ some (contender_of (machines_of card) p.0)
          one = (best_is_best_of_all card ranking word ra.accepted ra.ranks).only_it p.0 P.is_best

          other : best_by_weights card weights word ≡ some (contender_of (machines_of card) q.0)
          other = (weighted_best_is_best_of_all card weights word ra.accepted).only_it q.0 Q.is_best

          counts₁ : largest r.profile.counts ≡ largest (profile_of (machines_of card) p.0)
          counts₁ = ap (λ (v : Profile). largest v.counts) P.profile ∙ with_zeros (profile_of (machines_of card) p.0) (6 - length (profile_of (machines_of card) p.0))

          counts₂ : largest s.evaluation.profile.counts ≡ largest (profile_of (machines_of card) q.0)
          counts₂ = ap (λ (v : Profile). largest v.counts) Q.profile ∙ with_zeros (profile_of (machines_of card) q.0) (6 - length (profile_of (machines_of card) q.0))

          e : q.0 ≡ p.0
          e =
              let k : Outweighs (max (largest (profile_of (machines_of card) p.0)) (largest (profile_of (machines_of card) q.0))) weights ranking = rw (counts₁, counts₂) at d in
              ap (λ (f : Contender). f.candidate) (sym (agreement card weights ranking word ra.accepted ra.ranks (weighs (machine_count card) weights wa.weighs).count (contender_of (machines_of card) p.0) (contender_of (machines_of card) q.0) one other k))

          front : (c : List Pair) (rest : List ℕ) {n : ℕ} {l : List ℕ} → n ≡ length c → l ≡ bytes_of c ++ rest → take (2 * n) l ≡ bytes_of c
          front c rest h w = ap₂ (λ (n : ℕ) (l : List ℕ). take (2 * n) l) h w ∙ take_at (bytes_of c) rest (2 * length c) (length_bytes c)
