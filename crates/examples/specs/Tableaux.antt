-- Tableaux of card B under ranking 021, word 2, judged by the definition: example 4's answer claimed, not claimed, and lacking.
use Rattle.std.specs.Prelude.{◌≡◌, ◌∷◌, ◌++◌}
use Rattle.basics.specs.Words.{refl, List, [], ℕ, all_of, pairwise, those, first_that, joined, every_below, some_below, numbers_below, occurrences, product}
use Rattle.machine.specs.Machine.{of_kind, takes, step_among, ending_of, take_one_pair, clash}
use Rattle.machine.specs.Part.{arc_at, arcs_at, machine_of, sound_arc, shaped, part_refusal}
use Rattle.layout.specs.Layout.{due_offset, laid_out, parts_in}
use Rattle.card.specs.Layout.{counted, parts_of}
use Rattle.card.specs.Card.{card_refusal, parts_refusal, machines_of}
use Rattle.ranking.specs.Rankings.{is_ranking}
use Rattle.ranking.specs.Harmony.{harmony}
use Rattle.ranking.specs.ByteStrings.{smaller}
use Rattle.candidate.specs.Candidates.{pairs_of, bytes_of, spelled, marks_from, is_complete, profile_of}
use Rattle.candidate.specs.Evaluating.{sound_candidate}
use Rattle.product.specs.Best.{wins_tie, preferred, same_word, pairs_over, lists_below, contenders_among, least_of, best_below, best_of, best_in, best}
use Rattle.product.specs.Optimizing.{sound_word, input_refusal}
use Rattle.tableau.specs.declared.Judged.{Judged}
use Rattle.tableau.specs.Tableau.{sound_row, sound_tableau}
use Rattle.tableau.specs.Judging.{is_for_word, same_counts, first_row, verdict_of, judging_refusal, refused_judging, judging}
use Rattle.examples.specs.Cards.{card_b}

-- three counts and the unused ones
abbrev counts : ℕ → ℕ → ℕ → List ℕ
counts a b c = a ∷ 0 ∷ b ∷ 0 ∷ c ∷ 0 ∷ 0 ∷ 0 ∷ 0 ∷ 0 ∷ 0 ∷ 0 ∷ []

-- 2:2 with one mark of the first machine, and 0:1 2:2 with one of the second
abbrev kept : List ℕ
kept = counts 1 0 0 ++ (2 ∷ 2 ∷ [])

abbrev inserted : List ℕ
inserted = counts 0 1 0 ++ (0 ∷ 1 ∷ 2 ∷ 2 ∷ [])

abbrev two : ℕ → List ℕ
two claimed = 2 ∷ claimed ∷ 10 ∷ 0 ∷ 14 ∷ 0 ∷ 24 ∷ 0 ∷ 16 ∷ 0 ∷ (kept ++ inserted)

abbrev one : List ℕ
one = 1 ∷ 0 ∷ 6 ∷ 0 ∷ 14 ∷ 0 ∷ kept

abbrev judge : List ℕ → Judged
judge tableau = judging card_b (0 ∷ 2 ∷ 1 ∷ []) (2 ∷ []) 25600 tableau

pub record ThreeVerdicts : Type 0 where
  pub right : judge (two 1) ≡ record { number = 0; verdict = 1; row = 0 }
  pub another : judge (two 0) ≡ record { number = 0; verdict = 2; row = 1 }
  pub missing : judge one ≡ record { number = 0; verdict = 3; row = 0 }
  pub no_row : judge (two 2) ≡ refused_judging 19

pub the_three_verdicts : ThreeVerdicts
unfolding all_of pairwise those first_that joined every_below some_below numbers_below occurrences of_kind takes step_among ending_of take_one_pair clash arc_at arcs_at machine_of sound_arc shaped part_refusal due_offset laid_out parts_in counted parts_of card_refusal parts_refusal product machines_of is_ranking harmony pairs_of bytes_of spelled marks_from is_complete profile_of sound_candidate smaller wins_tie preferred same_word pairs_over lists_below contenders_among least_of best_below best_of best_in best sound_word input_refusal sound_row sound_tableau is_for_word same_counts first_row verdict_of judging_refusal judging
the_three_verdicts = record { right = refl; another = refl; missing = refl; no_row = refl }
