-- The ten examples, in one joint proof from the definitions alone; and those of the change requests.
use Rattle.std.specs.Prelude.{◌≡◌, ◌∷◌}
use Rattle.basics.specs.Words.{refl, List, [], ℕ, all_of, pairwise, those, first_that, joined, every_below, some_below, numbers_below, occurrences, set_of, product}
use Rattle.machine.specs.Machine.{of_kind, takes, step_among, ending_of, take_one_pair, clash}
use Rattle.machine.specs.Part.{arc_at, arcs_at, machine_of, sound_arc, shaped, part_refusal}
use Rattle.layout.specs.Layout.{due_offset, laid_out, parts_in}
use Rattle.card.specs.Layout.{counted, parts_of}
use Rattle.card.specs.Card.{card_refusal, parts_refusal, machines_of}
use Rattle.ranking.specs.Rankings.{is_ranking, arrangements}
use Rattle.ranking.specs.Harmony.{harmony}
use Rattle.ranking.specs.Conditions.{derived_from, highest, fits}
use Rattle.finder.specs.Finder.{conditions_of, disjoint, sound_condition, sound_list, smallest, finding}
use Rattle.candidate.specs.declared.Evaluation.{Evaluation}
use Rattle.candidate.specs.Candidates.{pairs_of, bytes_of, spelled, marks_from, is_complete, profile_of}
use Rattle.candidate.specs.Evaluating.{refused, sound_candidate, evaluating}
use Rattle.ranking.specs.ByteStrings.{smaller}
use Rattle.product.specs.Best.{wins_tie, preferred, same_word, pairs_over, lists_below, contenders_among, least_of, best_below, best_of, best_in, best}
use Rattle.product.specs.Answering.{answered, answered_slice}
use Rattle.product.specs.Optimizing.{sound_word, input_refusal, optimized, optimized_answer}
use Rattle.examples.specs.Cards.{card_a, card_a_with_insertion, card_b, card_b_with_ending}

-- an accepted result: the counts, the pairs, the length of the word
abbrev pub accepted : List ℕ → ℕ → ℕ → Evaluation
accepted counts pairs word = record { number = 0; profile = record { counts = counts }; pairs = pairs; word_length = word }

-- the optimizer, given the program's work slice and a word of one symbol: its result, and what an answer slice of four bytes holds
abbrev pub Gives : List ℕ → List ℕ → ℕ → Evaluation → List ℕ → Type 0
Gives card ranking symbol result bytes =
    (optimized card ranking (symbol ∷ []) 25600 4 ≡ result) × (optimized_answer card ranking (symbol ∷ []) 25600 (9 ∷ 9 ∷ 9 ∷ 9 ∷ []) ≡ bytes)

pub record TenExamples : Type 0 where
  -- A, ranking 0, word 1: `0 1:1`
  pub one : Gives card_a (0 ∷ []) 1 (accepted (0 ∷ 0 ∷ 0 ∷ 0 ∷ 0 ∷ 0 ∷ []) 1 1) (1 ∷ 1 ∷ 9 ∷ 9 ∷ [])
  -- A, word 2: 10
  pub two : Gives card_a (0 ∷ []) 2 (refused 10) (9 ∷ 9 ∷ 9 ∷ 9 ∷ [])
  -- B, `012 2`: `0,0,1 2:0`
  pub three : Gives card_b (0 ∷ 1 ∷ 2 ∷ []) 2 (accepted (0 ∷ 0 ∷ 1 ∷ 0 ∷ 0 ∷ 0 ∷ []) 1 1) (2 ∷ 0 ∷ 9 ∷ 9 ∷ [])
  -- B, `021 2`: `0,1,0 0:1 2:2`
  pub four : Gives card_b (0 ∷ 2 ∷ 1 ∷ []) 2 (accepted (0 ∷ 1 ∷ 0 ∷ 0 ∷ 0 ∷ 0 ∷ []) 2 1) (0 ∷ 1 ∷ 2 ∷ 2 ∷ [])
  -- B, `120 2`: `1,0,0 2:2`
  pub five : Gives card_b (1 ∷ 2 ∷ 0 ∷ []) 2 (accepted (1 ∷ 0 ∷ 0 ∷ 0 ∷ 0 ∷ 0 ∷ []) 1 1) (2 ∷ 2 ∷ 9 ∷ 9 ∷ [])
  -- A with another arc, a loop of free insertions; word 1: `0 1:1`
  pub six : Gives card_a_with_insertion (0 ∷ []) 1 (accepted (0 ∷ 0 ∷ 0 ∷ 0 ∷ 0 ∷ 0 ∷ []) 1 1) (1 ∷ 1 ∷ 9 ∷ 9 ∷ [])
  -- B evaluates 0:1 2:0: 0,1,1; two pairs, word length 1
  pub seven : evaluating card_b (0 ∷ 1 ∷ 2 ∷ 0 ∷ []) ≡ accepted (0 ∷ 1 ∷ 1 ∷ 0 ∷ 0 ∷ 0 ∷ []) 2 1
  -- (0,0,1) against (0,1,0): W {1}, L {2}
  pub eight : derived_from 3 (record { counts = 0 ∷ 0 ∷ 1 ∷ 0 ∷ 0 ∷ 0 ∷ [] }) (record { counts = 0 ∷ 1 ∷ 0 ∷ 0 ∷ 0 ∷ 0 ∷ [] }) ≡ record { number = 0; condition = record { fewer = 2; more = 4 } }
  -- empty list, K = 3: 012
  pub nine : finding 3 [] ≡ record { number = 0; ranking = 0 ∷ 1 ∷ 2 ∷ 0 ∷ 0 ∷ 0 ∷ [] }
  -- ({2},{0}), K = 3: 120
  pub ten : finding 3 (4 ∷ 1 ∷ []) ≡ record { number = 0; ranking = 1 ∷ 2 ∷ 0 ∷ 0 ∷ 0 ∷ 0 ∷ [] }

pub the_ten_examples : TenExamples
unfolding all_of pairwise those first_that joined every_below some_below numbers_below occurrences set_of of_kind takes step_among ending_of take_one_pair clash arc_at arcs_at machine_of sound_arc shaped part_refusal due_offset laid_out parts_in counted parts_of card_refusal parts_refusal product machines_of is_ranking arrangements harmony highest fits conditions_of disjoint sound_condition sound_list smallest finding pairs_of bytes_of spelled marks_from is_complete profile_of sound_candidate evaluating smaller wins_tie preferred same_word pairs_over lists_below contenders_among least_of best_below best_of best_in best sound_word input_refusal answered answered_slice
the_ten_examples = record {
  one = (refl, refl);
  two = (refl, refl);
  three = (refl, refl);
  four = (refl, refl);
  five = (refl, refl);
  six = (refl, refl);
  seven = refl;
  eight = refl;
  nine = refl;
  ten = refl;
}

pub record RequestExamples : Type 0 where
  -- S-5. B with state byte 2 for state 1 of machine 0, `012 1`: `0,0,1 1:0`
  pub ending_marks : Gives card_b_with_ending (0 ∷ 1 ∷ 2 ∷ []) 1 (accepted (0 ∷ 0 ∷ 1 ∷ 0 ∷ 0 ∷ 0 ∷ []) 1 1) (1 ∷ 0 ∷ 9 ∷ 9 ∷ [])
  -- and there 1:1 has a mark for ending: 1,0,0; one pair, word length 1
  pub its_profile : evaluating card_b_with_ending (1 ∷ 1 ∷ []) ≡ accepted (1 ∷ 0 ∷ 0 ∷ 0 ∷ 0 ∷ 0 ∷ []) 1 1

pub the_request_examples : RequestExamples
unfolding all_of pairwise those first_that joined every_below some_below numbers_below occurrences set_of of_kind takes step_among ending_of take_one_pair clash arc_at arcs_at machine_of sound_arc shaped part_refusal due_offset laid_out parts_in counted parts_of card_refusal parts_refusal product machines_of is_ranking arrangements harmony highest fits conditions_of disjoint sound_condition sound_list smallest finding pairs_of bytes_of spelled marks_from is_complete profile_of sound_candidate evaluating smaller wins_tie preferred same_word pairs_over lists_below contenders_among least_of best_below best_of best_in best sound_word input_refusal answered answered_slice
the_request_examples = record { ending_marks = (refl, refl); its_profile = refl }
