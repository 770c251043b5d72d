-- What the verdict means, in the words of the request: for every card, ranking, word, work slice and tableau of which nothing is refused. Assumes nothing.
use Rattle.std.specs.Prelude.{◌≡◌, ◌∷◌, ◌⊎◌, ◌↔◌, ◌≢◌, ◌<◌}
use Rattle.basics.proofs.Words.{refl, sym, ◌∙◌, ap, subst, Bool, true, false, List, [], Option, some, none, inl, inr, ℕ, zero, suc, arith, length, clash, every_at}
use Rattle.refusals.specs.Refusals.{refuse, first_of, unless_refused}
use Rattle.refusals.proofs.Refusals.{accepted}
use Rattle.card.specs.Layout.{machine_count}
use Rattle.card.specs.Card.{machines_of}
use Rattle.candidate.specs.Candidates.{pairs_of, IsCandidate}
use Rattle.product.specs.Best.{Contender, best}
use Rattle.product.specs.Optimizing.{input_refusal}
use Rattle.product.proofs.BestTheorem.{best_is_best_of_all}
use Rattle.input.specs.AcceptedInput.{AcceptedInput, accepted_input}
use Rattle.tableau.specs.declared.Judged.{Judged}
use Rattle.rows.specs.declared.Verdict.{Verdict}
use Rattle.rows.specs.declared.Verdict.TheVariants.{Right, AnotherRow, NotInTable}
use Rattle.tableau.specs.Tableau.{row_count, claimed_row, row_of, candidate_of, every_row, sound_tableau}
use Rattle.tableau.specs.Winning.{NoneBetter}
use Rattle.tableau.specs.Judging.{is_for_word, counts_are_profile, verdict_numbers, refused_judging, has_profile_of, first_row, verdict_of, judging_refusal, judging}
use Rattle.tableau.specs.Judges.{Judges}
use Rattle.tableau.specs.Laws.Rows.{FirstBelow, none_passes, first_below}
use Rattle.tableau.specs.Laws.Accepted.{AcceptedTableau, accepted_tableau, row_candidate, tableau_told}
use Rattle.tableau.specs.Verdicts.{Wins, FirstWinner, VerdictMeans}
use Rattle.tableau.proofs.Winning.{row_wins}

module _ (card ranking word : List ℕ) (room : ℕ) (tableau : List ℕ) (ok : judging_refusal card ranking word room tableau ≡ 0) where
  all : AcceptedTableau card ranking word room tableau
  all = accepted_tableau card ranking word room tableau ok

  -- what a row that wins passes
  passes : ℕ → Bool
  passes i = has_profile_of (best card ranking word) (row_of tableau i)

  row_wins_exactly : (i : ℕ) → i < row_count tableau → (passes i ≡ true) ↔ Wins card ranking word tableau i
  unfolding passes all
  row_wins_exactly i h = row_wins card ranking word (row_of tableau i) all.input.accepted all.input.ranks (all.candidates i h) (all.profiles i h)

  loses : (i : ℕ) → i < row_count tableau → passes i ≡ false → ¬ (Wins card ranking word tableau i)
  loses i h f w = clash ((row_wins_exactly i h).1 w) f

  claimed : claimed_row tableau < row_count tableau
  unfolding all
  claimed = all.sound.readable.claimed

  the_answer : (v : Verdict) → verdict_of (has_profile_of (best card ranking word)) tableau ≡ v → judging card ranking word room tableau ≡ verdict_numbers v
  unfolding judging
  the_answer v e = accepted (verdict_numbers (verdict_of (has_profile_of (best card ranking word)) tableau)) refused_judging ok ∙ ap verdict_numbers e

  module _ (i : ℕ) (e : first_row (has_profile_of (best card ranking word)) tableau ≡ some i) where
    first_one : FirstBelow passes (row_count tableau) i
    unfolding first_row passes
    first_one = first_below (λ j. has_profile_of (best card ranking word) (row_of tableau j)) (row_count tableau) i e

    pub winner : FirstWinner card ranking word tableau i
    unfolding first_one
    winner = record {
      row = first_one.below;
      wins = (row_wins_exactly i first_one.below).0 first_one.passes;
      earlier = λ j h. loses j (omega (arith, first_one.below)) (first_one.earlier j h);
    }

  no_winner : first_row (has_profile_of (best card ranking word)) tableau ≡ none → (i : ℕ) → i < row_count tableau → ¬ (Wins card ranking word tableau i)
  unfolding first_row passes
  no_winner e i h = loses i h (none_passes (λ j. has_profile_of (best card ranking word) (row_of tableau j)) (row_count tableau) e i h)

  -- the theorem, of the definition
  pub verdict_means : VerdictMeans card ranking word tableau (judging card ranking word room tableau)
  unfolding verdict_of passes
  verdict_means = claim (passes (claimed_row tableau)) refl
    where
      missed : (o : Option ℕ) → first_row (has_profile_of (best card ranking word)) tableau ≡ o → passes (claimed_row tableau) ≡ false → VerdictMeans card ranking word tableau (judging card ranking word room tableau)
      missed (some i) e f =
          let n = loses (claimed_row tableau) claimed f in
          let w = winner i e in
          rw (the_answer (AnotherRow i) (rw (f, e)))
          (record {
            right_exactly = (λ q. absurd (omega arith), λ k. absurd (n k));
            another_exactly = (λ _. ((i, w.row, w.wins), n), λ _. refl);
            first_named = λ _. w;
            missing_exactly = (λ q. absurd (omega arith), λ k. absurd (k i w.row w.wins));
            one_of_three = inr (inl refl);
            no_row = λ q. absurd (q refl);
          })
      missed none e f =
          let n = no_winner e in
          rw (the_answer NotInTable (rw (f, e)))
          (record {
            right_exactly = (λ q. absurd (omega arith), λ k. absurd (n (claimed_row tableau) claimed k));
            another_exactly = (λ q. absurd (omega arith), λ k. absurd (n k.0.0 k.0.1 k.0.2));
            first_named = λ q. absurd (omega arith);
            missing_exactly = (λ _. n, λ _. refl);
            one_of_three = inr (inr refl);
            no_row = λ _. refl;
          })

      claim : (b : Bool) → passes (claimed_row tableau) ≡ b → VerdictMeans card ranking word tableau (judging card ranking word room tableau)
      claim false f = missed (first_row (has_profile_of (best card ranking word)) tableau) refl f
      claim true t =
          let w = (row_wins_exactly (claimed_row tableau) claimed).0 t in
          rw (the_answer Right (rw t))
          (record {
            right_exactly = (λ _. w, λ _. refl);
            another_exactly = (λ q. absurd (omega arith), λ k. absurd (k.1 w));
            first_named = λ q. absurd (omega arith);
            missing_exactly = (λ q. absurd (omega arith), λ k. absurd (k (claimed_row tableau) claimed w));
            one_of_three = inl refl;
            no_row = λ _. refl;
          })

-- ---- of what the call answers

-- the number of the answer is the refusal's
number_is : (card ranking word : List ℕ) (room : ℕ) (tableau : List ℕ) → (judging card ranking word room tableau).number ≡ judging_refusal card ranking word room tableau
unfolding judging
number_is card ranking word room tableau = go (judging_refusal card ranking word room tableau) (verdict_of (has_profile_of (best card ranking word)) tableau)
  where
    go : (n : ℕ) (v : Verdict) → (unless_refused n (verdict_numbers v) refused_judging).number ≡ n
    go zero Right = refl
    go zero (AnotherRow i) = refl
    go zero NotInTable = refl
    go (suc n) v = refl

module _ {card ranking word work workAfter tableau : List ℕ} {r : Judged} (call : Judges card ranking word work workAfter tableau r) where
  -- where nothing is refused the verdict means what it says
  pub judged_means : r.number ≡ 0 → VerdictMeans card ranking word tableau r
  judged_means z =
      let ok : judging_refusal card ranking word (length work) tableau ≡ 0 = sym (number_is card ranking word (length work) tableau) ∙ ap (λ (j : Judged). j.number) (sym call.result) ∙ z in
      subst (λ (j : Judged). VerdictMeans card ranking word tableau j) (sym call.result) (verdict_means card ranking word (length work) tableau ok)

  -- what the call can refuse after 9: 10 and 12 do not arise
  pub refused_by : input_refusal card ranking word (length work) ≡ 0 → (r.number ≡ 0) ⊎ ((r.number ≡ 19) ⊎ ((r.number ≡ 20) ⊎ (r.number ≡ 21)))
  unfolding judging_refusal
  refused_by ok = subst (λ (j : Judged). (j.number ≡ 0) ⊎ ((j.number ≡ 19) ⊎ ((j.number ≡ 20) ⊎ (j.number ≡ 21)))) (sym call.result) (rw number_is (go (sound_tableau (machine_count card) tableau) (every_row (is_for_word card word) tableau) (every_row (counts_are_profile card) tableau)))
    where
      go : (a b c : Bool) → let n = first_of (input_refusal card ranking word (length work) ∷ refuse 19 a ∷ refuse 20 b ∷ refuse 21 c ∷ []) in
          (n ≡ 0) ⊎ ((n ≡ 19) ⊎ ((n ≡ 20) ⊎ (n ≡ 21)))
      go false b c = inr (inl (rw ok))
      go true false c = inr (inr (inl (rw ok)))
      go true true false = inr (inr (inr (rw ok)))
      go true true true = inl (rw ok)

-- a row that passes 20 leaves no case for 10: its candidate is a complete one for the word
pub no_case_for_10 : (card ranking word : List ℕ) (room : ℕ) (tableau : List ℕ) → input_refusal card ranking word room ≡ 0 → sound_tableau (machine_count card) tableau ≡ true → every_row (is_for_word card word) tableau ≡ true
    → (b : Contender) × (best card ranking word ≡ some b)
no_case_for_10 card ranking word room tableau ok t u = go (best card ranking word) refl
  where
    a : AcceptedInput card ranking word room
    a = accepted_input card ranking word room ok

    candidate : IsCandidate (machines_of card) word (pairs_of (candidate_of (row_of tableau 0)))
    candidate = row_candidate card word (row_of tableau 0) (every_at (λ i. is_for_word card word (row_of tableau i)) (row_count tableau) u 0 (omega (arith, (tableau_told (machine_count card) tableau t).some_row)))

    go : (o : Option Contender) → best card ranking word ≡ o → (b : Contender) × (best card ranking word ≡ some b)
    go none e = absurd ((best_is_best_of_all card ranking word a.accepted a.ranks).none_exactly.0 e (pairs_of (candidate_of (row_of tableau 0))) candidate)
    go (some b) e = (b, e)
