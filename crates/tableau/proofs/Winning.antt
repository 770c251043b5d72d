-- Which candidates no other one has a better profile than: those whose profile is the best's. Assumes nothing.
use Rattle.std.specs.Prelude.{◌≡◌, ◌↔◌, ◌&&◌, ◌∷◌, ◌*◌, ◌%◌, ◌<◌}
use Rattle.basics.proofs.Words.{refl, sym, ◌∙◌, ap, true, List, ℕ, fails, [], Option, some, none, arith, length, eqb, leb, lit<, all_of, left, right, every_at}
use Rattle.machine.specs.declared.Pair.{Pair}
use Rattle.machine.specs.Machine.{Machine}
use Rattle.ranking.specs.declared.Order.TheVariants.{Equal}
use Rattle.ranking.specs.Harmony.{harmony, is_better, better}
use Rattle.ranking.specs.HarmonicInequality.{not_both, one_way, neither_way, equal_at, same_at}
use Rattle.candidate.specs.Candidates.{profile_of, IsCandidate, pairs_of, spelled, is_complete}
use Rattle.product.specs.BestCandidate.{Beats, better_profile, fewer_pairs, smaller_bytes, IsBestCandidate}
use Rattle.tableau.specs.Winning.{NoneBetter}
use Rattle.refusals.specs.Refusals.{refuse}
use Rattle.refusals.proofs.Refusals.{passed, none_first}
use Rattle.machine.specs.Symbols.{is_pair, within_symbols}
use Rattle.ranking.specs.Rankings.{is_ranking}
use Rattle.card.specs.Layout.{machine_count, symbol_count}
use Rattle.card.specs.Card.{card_refusal, machines_of}
use Rattle.card.specs.Accepted.{accepted}
use Rattle.candidate.specs.Evaluating.{sound_pair, sound_candidate}
use Rattle.product.specs.Best.{Contender, same_word, best}
use Rattle.product.specs.Optimizing.{input_refusal}
use Rattle.product.specs.BestTheorem.{BestOfAll}
use Rattle.product.proofs.BestTheorem.{best_is_best_of_all}
use Rattle.product.specs.Laws.Accepted.{accepted_machines}
use Rattle.product.specs.Laws.BestCandidate.{profile_length}
use Rattle.product.specs.Laws.Candidates.{same_word_lem}
use Rattle.input.specs.AcceptedInput.{AcceptedInput, accepted_input}
use Rattle.tableau.specs.Tableau.{row_count, row_of, counts_of, candidate_of, every_row, sound_tableau}
use Rattle.tableau.specs.Judging.{is_for_word, counts_are_profile, has_profile_of, judging_refusal}
use Rattle.tableau.specs.Laws.Counts.{equal_counts}

module _ (r : List ℕ) (ms : List Machine) (word : List ℕ) (b : List Pair) (is : IsBestCandidate r ms word b) where
  -- no candidate's profile is better than the best's
  best_unbeaten : NoneBetter r ms word b
  best_unbeaten d k h = go (is.rivals d k (λ e. alike (ap (profile_of ms) e)))
    where
      alike : profile_of ms d ≡ profile_of ms b → ⊥
      alike e =
          let q : better r (profile_of ms b) (profile_of ms b) ≡ true = sym (ap (λ (v : List ℕ). better r v (profile_of ms b)) e) ∙ h in
          one_way r (profile_of ms b) (profile_of ms b) q q

      go : Beats r ms b d → ⊥
      go (better_profile w) = not_both (harmony r (profile_of ms d) (profile_of ms b)) h w
      go (fewer_pairs e q) = alike e
      go (smaller_bytes e q s) = alike e

  -- so none is better than a candidate exactly when comparing says equal between its profile and the best's
  pub wins_by_best : (c : List Pair) → IsCandidate ms word c → NoneBetter r ms word c ↔ (harmony r (profile_of ms c) (profile_of ms b) ≡ Equal)
  wins_by_best c k = (to, back)
    where
      to : NoneBetter r ms word c → harmony r (profile_of ms c) (profile_of ms b) ≡ Equal
      to w =
          neither_way r (profile_of ms c) (profile_of ms b) (fails (better r (profile_of ms c) (profile_of ms b)) (best_unbeaten c k))
          (fails (better r (profile_of ms b) (profile_of ms c)) (w b is.candidate))

      back : harmony r (profile_of ms c) (profile_of ms b) ≡ Equal → NoneBetter r ms word c
      back e d l h =
          let q = same_at r (profile_of ms d) (profile_of ms c) (profile_of ms d) (profile_of ms b) (λ i z. refl) (equal_at r (profile_of ms c) (profile_of ms b) e) in
          best_unbeaten d l (sym (ap is_better q) ∙ h)

-- the rows with the best's profile are those that win
pub row_wins : (card ranking word row : List ℕ) → card_refusal card ≡ 0 → is_ranking (machine_count card) ranking ≡ true
    → IsCandidate (machines_of card) word (pairs_of (candidate_of row)) → counts_are_profile card row ≡ true
    → (has_profile_of (best card ranking word) row ≡ true) ↔ NoneBetter ranking (machines_of card) word (pairs_of (candidate_of row))
row_wins card ranking word row ok ranks k t = go (best card ranking word) refl
  where
    all : BestOfAll card ranking word
    all = best_is_best_of_all card ranking word ok ranks

    c : List Pair
    c = pairs_of (candidate_of row)

    long : (d : List Pair) → length (profile_of (machines_of card) d) ≡ machine_count card
    long d = profile_length (machines_of card) d ∙ (accepted_machines card ok).count

    go : (o : Option Contender) → best card ranking word ≡ o → (has_profile_of o row ≡ true) ↔ NoneBetter ranking (machines_of card) word (pairs_of (candidate_of row))
    go none e = absurd (all.none_exactly.0 e c k)
    go (some b) e =
        let p : b.profile ≡ profile_of (machines_of card) b.candidate = all.its_profile b e in
        let q = equal_counts (machine_count card) ranking (counts_of row) (profile_of (machines_of card) c) (profile_of (machines_of card) b.candidate)
        (omega (arith, (accepted card ok).head)) ranks (long c) (long b.candidate) t in
        let w = wins_by_best ranking (machines_of card) word b.candidate (all.is_best b e) c k in
        (λ h. w.1 (q.0 (rw p at h)), λ n. rw p (q.1 (w.0 n)))
