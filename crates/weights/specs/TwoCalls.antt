-- Two calls with weights, on one card, weights, word and answer slice and with work slices of their own, of any length and contents: what is refused
-- before 9 is refused by both; otherwise 9 is each call's alone; and two calls that pass 9 give one result and one answer slice.
use Rattle.std.specs.Prelude.{◌∷◌, ◌*◌}
use Rattle.basics.specs.Words.{refl, ap, List, [], ℕ, length}
use Rattle.refusals.specs.Refusals.{refuse, first_of}
use Rattle.card.specs.Layout.{machine_count, symbol_count}
use Rattle.card.specs.Card.{card_refusal, machines_of}
use Rattle.product.specs.Nodes.{node_count}
use Rattle.product.specs.Answering.{answered, answered_slice}
use Rattle.product.specs.Optimizing.{sound_word}
use Rattle.optimizer.specs.TwoCalls.{TwoCalls, both_calls, not_9}
use Rattle.product.specs.Weights.{sound_weights, best_by_weights}
use Rattle.weights.specs.declared.Weighing.{Weighing}
use Rattle.weights.specs.Weighing.{weighted_refusal, refused_weighing, answered_sum, answered_weighing}
use Rattle.weights.specs.Searching.{Optimizes, is_weighed}

-- the checks 1 to 6, 26 and 8
abbrev pub checks_of_weights : (card weights word : List ℕ) → List ℕ
checks_of_weights card weights word = card_refusal card ∷ refuse 26 (sound_weights (machine_count card) weights) ∷ refuse 8 (sound_word (symbol_count card) word) ∷ []

pub two_calls : {card weights word work workAfter work' workAfter' answer answerAfter answerAfter' : List ℕ} {r r' : Weighing}
    → Optimizes card weights word work workAfter answer answerAfter r → Optimizes card weights word work' workAfter' answer answerAfter' r'
    → TwoCalls refused_weighing (first_of (checks_of_weights card weights word)) (2 * node_count (machines_of card) (length word)) work workAfter work' workAfter' answer answerAfter answerAfter' r r'
unfolding weighted_refusal answered answered_slice answered_sum
two_calls {card} {weights} {word} {answer = answer} a b =
    let o = best_by_weights card weights word in
    both_calls {result-of = λ n. answered_weighing n weights o word (length answer)} {slice_of = λ n. answered_slice n o answer} (λ n. refl) (λ n. refl) (λ e. not_9 o word (length answer) (ap (λ (v : Weighing). v.evaluation) e))
    (checks_of_weights card weights word) (2 * node_count (machines_of card) (length word))
    (record { result = is_weighed a; answer_slice = a.answers.answer_slice; work_kept = a.answers.work_kept }) (record { result = is_weighed b; answer_slice = b.answers.answer_slice; work_kept = b.answers.work_kept })
