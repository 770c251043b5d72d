-- What input and tableau promise where nothing is refused. Assumes nothing.
use Rattle.std.specs.Prelude.{◌≡◌, ◌&&◌, ◌∷◌, ◌↔◌, ◌*◌, ◌%◌, ◌<◌}
use Rattle.basics.proofs.Words.{refl, ◌∙◌, true, List, [], Option, some, none, ℕ, arith, length, eqb, leb, lit<, all_of, left, right, every_at}
use Rattle.refusals.specs.Refusals.{refuse}
use Rattle.refusals.proofs.Refusals.{passed, none_first}
use Rattle.machine.specs.declared.Pair.{Pair}
use Rattle.machine.specs.Symbols.{is_pair, within_symbols}
use Rattle.ranking.specs.Rankings.{is_ranking}
use Rattle.card.specs.Layout.{machine_count, symbol_count}
use Rattle.card.specs.Card.{card_refusal, machines_of}
use Rattle.card.specs.Accepted.{accepted}
use Rattle.candidate.specs.Candidates.{pairs_of, spelled, is_complete, profile_of, IsCandidate}
use Rattle.candidate.specs.Evaluating.{sound_pair, sound_candidate}
use Rattle.product.specs.Best.{Contender, same_word, best}
use Rattle.product.specs.Optimizing.{input_refusal}
use Rattle.product.specs.BestTheorem.{BestOfAll}
use Rattle.product.proofs.BestTheorem.{best_is_best_of_all}
use Rattle.product.specs.Laws.Accepted.{accepted_machines}
use Rattle.product.specs.Laws.BestCandidate.{profile_length}
use Rattle.product.specs.Laws.Candidates.{same_word_lem}
use Rattle.input.specs.AcceptedInput.{AcceptedInput, accepted_input}
use Rattle.tableau.specs.Tableau.{row_count, row_of, counts_of, candidate_of, every_row, sound_tableau}
use Rattle.tableau.specs.Judging.{is_for_word, counts_are_profile, has_profile_of, judging_refusal}
use Rattle.tableau.specs.Winning.{NoneBetter}
use Rattle.tableau.specs.Laws.Counts.{equal_counts}
pub use Rattle.rows.specs.Laws.{SoundTableau, tableau_told, row_complete}

-- a sound candidate is a list of pairs
sound_pairs : (S : ℕ) (ps : List Pair) → all_of (sound_pair S) ps ≡ true → all_of is_pair ps ≡ true
unfolding all_of
sound_pairs S [] t = refl
sound_pairs S (p ∷ ps) t =
    let a = left (sound_pair S p) (all_of (sound_pair S) ps) t in
    let e : is_pair p ≡ true = left (is_pair p) (within_symbols S p) a in
    rw e (sound_pairs S ps (right (sound_pair S p) (all_of (sound_pair S) ps) t))

-- what passes 20 is a complete candidate for the word
pub row_candidate : (card word row : List ℕ) → is_for_word card word row ≡ true → IsCandidate (machines_of card) word (pairs_of (candidate_of row))
unfolding is_for_word sound_candidate
row_candidate card word row t =
    let bytes = candidate_of row in
    let S = symbol_count card in
    let even = eqb (length bytes % 2) 0 in
    let short = leb (length bytes) (2 * 3199) in
    let sound = all_of (sound_pair S) (pairs_of bytes) in
    let complete = is_complete (machines_of card) (pairs_of bytes) in
    let IsWord-same = same_word (spelled (pairs_of bytes)) word in
    let ab = left (even && short && sound && complete) IsWord-same t in
    record {
      pairs = sound_pairs S (pairs_of bytes) (right (even && short) sound (left (even && short && sound) complete ab));
      spells = same_word_lem (spelled (pairs_of bytes)) word (right (even && short && sound && complete) IsWord-same t);
      complete = right (even && short && sound) complete ab;
    }

-- nothing is refused
pub record AcceptedTableau (card ranking word : List ℕ) (room : ℕ) (tableau : List ℕ) : Type 0 where
  pub input : AcceptedInput card ranking word room
  pub sound : SoundTableau tableau
  pub candidates : (i : ℕ) → i < row_count tableau → IsCandidate (machines_of card) word (pairs_of (candidate_of (row_of tableau i)))
  pub profiles : (i : ℕ) → i < row_count tableau → counts_are_profile card (row_of tableau i) ≡ true

pub accepted_tableau : (card ranking word : List ℕ) (room : ℕ) (tableau : List ℕ) → judging_refusal card ranking word room tableau ≡ 0 → AcceptedTableau card ranking word room tableau
unfolding judging_refusal
accepted_tableau card ranking word room tableau z =
    let a = sound_tableau (machine_count card) tableau in
    let b = every_row (is_for_word card word) tableau in
    let c = every_row (counts_are_profile card) tableau in
    let i = none_first (input_refusal card ranking word room) (refuse 19 a ∷ refuse 20 b ∷ refuse 21 c ∷ []) z in
    let j = none_first (refuse 19 a) (refuse 20 b ∷ refuse 21 c ∷ []) i.1 in
    let k = none_first (refuse 20 b) (refuse 21 c ∷ []) j.1 in
    let l = none_first (refuse 21 c) [] k.1 in
    record {
      input = accepted_input card ranking word room i.0;
      sound = tableau_told (machine_count card) tableau (passed 19 a (lit< tt) j.0);
      candidates = λ n h. row_candidate card word (row_of tableau n) (every_at (λ m. is_for_word card word (row_of tableau m)) (row_count tableau) (passed 20 b (lit< tt) k.0) n h);
      profiles = λ n h. every_at (λ m. counts_are_profile card (row_of tableau m)) (row_count tableau) (passed 21 c (lit< tt) l.0) n h;
    }
