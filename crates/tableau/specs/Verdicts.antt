-- What the verdict means, in the words of the request. That it does, for every card, ranking, word, work slice and tableau of which nothing is refused, is
-- judged_means, of proofs/Verdicts.
use Rattle.std.specs.Prelude.{◌≡◌, ◌∷◌, ◌⊎◌, ◌↔◌, ◌≢◌, ◌<◌}
use Rattle.basics.proofs.Words.{refl, sym, ◌∙◌, ap, subst, Bool, true, false, List, [], Option, some, none, inl, inr, ℕ, zero, suc, arith, length, clash, every_at}
use Rattle.refusals.specs.Refusals.{refuse, first_of, unless_refused}
use Rattle.card.specs.Layout.{machine_count}
use Rattle.card.specs.Card.{machines_of}
use Rattle.candidate.specs.Candidates.{pairs_of, IsCandidate}
use Rattle.product.specs.Best.{Contender, best}
use Rattle.product.specs.Optimizing.{input_refusal}
use Rattle.input.specs.AcceptedInput.{AcceptedInput, accepted_input}
use Rattle.tableau.specs.declared.Judged.{Judged}
use Rattle.rows.specs.declared.Verdict.{Verdict}
use Rattle.rows.specs.declared.Verdict.TheVariants.{Right, AnotherRow, NotInTable}
use Rattle.tableau.specs.Tableau.{row_count, claimed_row, row_of, candidate_of, every_row, sound_tableau}
use Rattle.tableau.specs.Winning.{NoneBetter}
use Rattle.tableau.specs.Judging.{is_for_word, counts_are_profile, verdict_numbers, refused_judging, has_profile_of, first_row, verdict_of, judging_refusal, judging}
use Rattle.tableau.specs.Judges.{Judges}

-- row i wins: no complete candidate for the word, however long, has a better profile than the row's candidate
abbrev pub Wins : List ℕ → List ℕ → List ℕ → List ℕ → ℕ → Type 0
Wins card ranking word tableau i = NoneBetter ranking (machines_of card) word (pairs_of (candidate_of (row_of tableau i)))

-- row i is the first that wins
pub record FirstWinner (card ranking word tableau : List ℕ) (i : ℕ) : Type 0 where
  pub row : i < row_count tableau
  pub wins : Wins card ranking word tableau i
  pub earlier : (j : ℕ) → j < i → ¬ (Wins card ranking word tableau j)

pub record VerdictMeans (card ranking word tableau : List ℕ) (r : Judged) : Type 0 where
  -- right exactly when the claimed row wins
  pub right_exactly : (r.verdict ≡ 1) ↔ Wins card ranking word tableau (claimed_row tableau)
  -- another row, with the first row that wins, exactly when some row wins and the claimed one does not
  pub another_exactly : (r.verdict ≡ 2) ↔ (((i : ℕ) × (i < row_count tableau) × Wins card ranking word tableau i) × ¬ (Wins card ranking word tableau (claimed_row tableau)))
  pub first_named : r.verdict ≡ 2 → FirstWinner card ranking word tableau r.row
  -- not in the table exactly when no row wins
  pub missing_exactly : (r.verdict ≡ 3) ↔ ((i : ℕ) → i < row_count tableau → ¬ (Wins card ranking word tableau i))
  -- there is no other verdict, and no row but with another row
  pub one_of_three : (r.verdict ≡ 1) ⊎ ((r.verdict ≡ 2) ⊎ (r.verdict ≡ 3))
  pub no_row : r.verdict ≢ 2 → r.row ≡ 0
