-- For whoever compares the two schools: a word whose best by weights no ranking gives. The sound 1 is kept, weakened to 2, or dropped. Effort has
-- three marks where it is kept and one where it is weakened; faithfulness three where it is dropped and one where it is weakened. With equal weights
-- three marks of either gang up against one of each, and the sound is weakened; a ranking takes any number of marks of the lower constraint to save
-- one of the higher, and drops or keeps it.
use Rattle.std.specs.Prelude.{◌≡◌, ◌∷◌, ◌++◌, ◌⊎◌}
use Rattle.basics.proofs.Words.{refl, sym, ◌∙◌, ap, true, List, [], List-as-Memᴰ, List·Memᴰ·head, List·Memᴰ·tail, List·Memᴰ·not-nil, Option, some, none, inl, inr, ⊎_elim, ℕ, arith, get_or, all_of, pairwise, those, first_that, joined, every_below, some_below, numbers_below, occurrences, product, length_numbers}
use Rattle.machine.specs.Machine.{of_kind, takes, step_among, ending_of, take_one_pair, clash}
use Rattle.machine.specs.Part.{arc_at, arcs_at, machine_of, sound_arc, shaped, part_refusal}
use Rattle.layout.specs.Layout.{due_offset, laid_out, parts_in}
use Rattle.card.specs.Layout.{machine_count, counted, parts_of}
use Rattle.card.specs.Card.{card_refusal, parts_refusal, machines_of}
use Rattle.ranking.specs.Rankings.{is_ranking, arrangements}
use Rattle.ranking.specs.Harmony.{harmony}
use Rattle.ranking.specs.ByteStrings.{smaller}
use Rattle.ranking.specs.Lemmas.Arrangements.{numbers_distinct, ranking_permuted, permuted_arranged}
use Rattle.candidate.specs.Candidates.{bytes_of, spelled, marks_from, is_complete, profile_of}
use Rattle.product.specs.Best.{Contender, wins_tie, preferred, same_word, pairs_over, lists_below, contenders_among, least_of, best_below, best_of, best_in, best}
use Rattle.product.specs.Weights.{sound_weights, weighted_sum, best_by_weights}

-- an arc from 1 to one out, and a machine of one final state: the marks where 1 is dropped, kept and weakened
abbrev arc : ℕ → ℕ → List ℕ
arc marks outputs = 0 ∷ 0 ∷ marks ∷ 0 ∷ 2 ∷ 0 ∷ 0 ∷ 0 ∷ 0 ∷ 0 ∷ 0 ∷ 0 ∷ outputs ∷ 0 ∷ 0 ∷ 0 ∷ 0 ∷ 0 ∷ 0 ∷ 0 ∷ []

abbrev marking : ℕ → ℕ → ℕ → List ℕ
marking dropped kept weakened = 1 ∷ 3 ∷ 1 ∷ (arc dropped 1 ++ (arc kept 2 ++ arc weakened 4))

-- effort, then faithfulness; two symbols
abbrev pub weakening : List ℕ
weakening = 2 ∷ 2 ∷ 10 ∷ 0 ∷ 63 ∷ 0 ∷ 73 ∷ 0 ∷ 63 ∷ 0 ∷ (marking 0 3 1 ++ marking 3 0 1)

-- 1 with an out, and its two counts
abbrev answer : ℕ → ℕ → ℕ → Contender
answer out effort faithfulness = record { candidate = record { input = 1; output = out } ∷ []; profile = effort ∷ faithfulness ∷ [] }

pub record GangsUp : Type 0 where
  pub is_accepted : card_refusal weakening ≡ 0
  pub weights_sound : sound_weights (machine_count weakening) (1000 ∷ 1000 ∷ []) ≡ true
  -- by weights it is weakened
  pub by_weights_lem : best_by_weights weakening (1000 ∷ 1000 ∷ []) (1 ∷ []) ≡ some (answer 2 1 1)
  -- effort ranked higher drops it, faithfulness ranked higher keeps it
  pub by_effort : best weakening (0 ∷ 1 ∷ []) (1 ∷ []) ≡ some (answer 0 0 3)
  pub by_faithfulness : best weakening (1 ∷ 0 ∷ []) (1 ∷ []) ≡ some (answer 1 3 0)

pub gangs_up : GangsUp
unfolding all_of pairwise those first_that joined every_below some_below numbers_below occurrences of_kind takes step_among ending_of take_one_pair clash arc_at arcs_at machine_of sound_arc shaped part_refusal due_offset laid_out parts_in counted parts_of card_refusal parts_refusal product machines_of harmony bytes_of spelled marks_from is_complete profile_of smaller wins_tie preferred same_word pairs_over lists_below contenders_among least_of best_below best_of best_in best sound_weights weighted_sum best_by_weights
gangs_up = record { is_accepted = refl; weights_sound = refl; by_weights_lem = refl; by_effort = refl; by_faithfulness = refl }

abbrev effort : Option Contender → ℕ
effort none = 0
effort (some b) = get_or b.profile 0 0

one_of_two : {a b : List ℕ} (r : List ℕ) → List-as-Memᴰ r (a ∷ b ∷ []) → (r ≡ a) ⊎ (r ≡ b)
one_of_two r (List·Memᴰ·head e) = inl e
one_of_two r (List·Memᴰ·tail (List·Memᴰ·head e)) = inr e
one_of_two r (List·Memᴰ·tail (List·Memᴰ·tail m)) = absurd (List·Memᴰ·not-nil m)

two_rankings : (r : List ℕ) → is_ranking 2 r ≡ true → (r ≡ 0 ∷ 1 ∷ []) ⊎ (r ≡ 1 ∷ 0 ∷ [])
unfolding arrangements those joined numbers_below
two_rankings r h = one_of_two r (permuted_arranged 2 (numbers_below 2) r (length_numbers 2) (numbers_distinct 2) (ranking_permuted 2 r h))

pub no_ranking_gives_it : (r : List ℕ) → is_ranking (machine_count weakening) r ≡ true → ¬ (best weakening r (1 ∷ []) ≡ best_by_weights weakening (1000 ∷ 1000 ∷ []) (1 ∷ []))
no_ranking_gives_it r h q = ⊎_elim
    (λ e. let z : ◌≡◌ {A = ℕ} 0 1 = ap effort (sym gangs_up.by_effort ∙ ap (λ s. best weakening s (1 ∷ [])) (sym e) ∙ q ∙ gangs_up.by_weights_lem) in omega arith)
    (λ e. let z : ◌≡◌ {A = ℕ} 3 1 = ap effort (sym gangs_up.by_faithfulness ∙ ap (λ s. best weakening s (1 ∷ [])) (sym e) ∙ q ∙ gangs_up.by_weights_lem) in omega arith)
    (two_rankings r h)
