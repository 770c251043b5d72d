-- Arcs that the answer does not use, over the calls as they are: both engines have the contracts `Optimizes` and `OptimizesSets`, so each of the two
-- calls may be either engine's.
use Rattle.std.specs.Prelude.{◌≡◌, ◌*◌, ◌≤◌}
use Rattle.basics.specs.Words.{sym, ◌∙◌, ap, subst, true, false, List, Option, ℕ, length}
use Rattle.refusals.specs.Refusals.{refuse}
use Rattle.machine.specs.declared.Pair.{Pair}
use Rattle.machine.specs.Machine.{Machine}
use Rattle.ranking.specs.Rankings.{is_ranking}
use Rattle.card.specs.Layout.{machine_count, symbol_count}
use Rattle.card.specs.Card.{card_refusal, machines_of}
use Rattle.candidate.specs.declared.Evaluation.{Evaluation}
use Rattle.paths.specs.Costs.{Costs}
use Rattle.product.specs.Nodes.{node_count}
use Rattle.product.specs.Best.{Contender, ProfileOrder, best}
use Rattle.product.specs.Sets.{best_of_sets}
use Rattle.product.specs.Prices.{Price, Agrees, ranking_agrees}
use Rattle.product.specs.Answering.{before_search}
use Rattle.product.specs.Optimizing.{sound_word, input_refusal}
use Rattle.product.specs.OptimizingSets.{sets_refusal, sets_input_refusal}
use Rattle.product.specs.Searches.{Searches}
use Rattle.product.proofs.Searches.{of_word, of_sets}
use Rattle.input.specs.AcceptedInput.{Passes, passes, passes_all, accepted_input, AcceptedSetsInput, accepted_sets_input, accepted_bits}
use Rattle.optimizer.specs.Optimizes.{Answers, Optimizes, OptimizesSets}
use Rattle.optimizer.specs.Demands.{answered_accepts}
use Rattle.trimming.specs.Travelling.{travels}
use Rattle.trimming.specs.Trimmed.{LacksArc}
use Rattle.trimming.specs.Answering.{answered_candidate, SameAnswer}
use Rattle.trimming.proofs.Answers.{Answered, answered_by, its_candidate, answers_again, same_candidate}
use Rattle.trimming.proofs.Acceptance.{same_nodes}
use Rattle.trimming.proofs.SameBest.{same_best, travelled_gone}

-- ---- whatever is asked for, in every order on profiles with a price that agrees with it

-- an accepted card answers, and another one lacks one arc; n and m are the numbers of the checks before the two searches
module _ {Meant : List Machine → List Pair → Type 0} {bestOn : ProfileOrder → List ℕ → Option Contender} (asked : Searches Meant bestOn) {costs : Costs} {price : Price costs} {better : ProfileOrder} (agrees : Agrees price better)
    {card trimmed word work workAfter answer answerAfter secondWork secondWorkAfter secondAnswer secondAfter : List ℕ} {r second : Evaluation} {n m i j : ℕ} (lacks : LacksArc card i j trimmed) (ok : card_refusal card ≡ 0)
    (first : Answers n (bestOn better card) word work workAfter answer answerAfter r) (answered : r.number ≡ 0) (call : Answers m (bestOn better trimmed) word secondWork secondWorkAfter secondAnswer secondAfter second)
  where
    found : (b : Contender) × Answered (bestOn better card) word answer answerAfter r b
    found = answered_by first answered

    as_found : travels (machines_of card) i j found.0.candidate ≡ travels (machines_of card) i j (answered_candidate r answerAfter)
    as_found = ap (travels (machines_of card) i j) (sym (its_candidate found.1))

    pub answer_stays : travels (machines_of card) i j (answered_candidate r answerAfter) ≡ false → card_refusal trimmed ≡ 0 → m ≡ 0 → 2 * r.pairs ≤ length secondAnswer → SameAnswer r answerAfter second secondAnswer secondAfter
    answer_stays off ok' passed fits = answers_again found.1 call passed (same_best ok ok' lacks asked agrees found.0 found.1.is (as_found ∙ off)) fits

    pub answer_changes : (m ≡ 0 → card_refusal trimmed ≡ 0) → travels (machines_of card) i j (answered_candidate r answerAfter) ≡ true → ¬ (SameAnswer r answerAfter second secondAnswer secondAfter)
    answer_changes accepts t same =
        let z : second.number ≡ 0 = ap (λ (v : Evaluation). v.number) same.result ∙ answered in
        let ok' = accepts (answered_accepts call z) in
        let d = answered_by call z in
        let there = ((asked.best_of_all agrees trimmed ok').is_best d.0 d.1.is).candidate in
        let q : d.0.candidate ≡ found.0.candidate = sym (its_candidate d.1) ∙ same_candidate found.1 same in
        travelled_gone ok ok' lacks asked found.0.candidate (as_found ∙ t) (subst (Meant (machines_of trimmed)) q there)

-- input that the checks accept they accept with the other card, where it is accepted and the work slice has room
passes_too : {card trimmed : List ℕ} {i j : ℕ} → LacksArc card i j trimmed → (o w : ℕ → ℕ) (size k room room' : ℕ) → before_search card (o (machine_count card)) (w (symbol_count card)) (size * node_count (machines_of card) k) room ≡ 0
    → card_refusal trimmed ≡ 0 → size * node_count (machines_of card) k ≤ room' → before_search trimmed (o (machine_count trimmed)) (w (symbol_count trimmed)) (size * node_count (machines_of trimmed) k) room' ≡ 0
passes_too {card} {trimmed} lacks o w size k room room' e ok fits =
    let p = passes card (o (machine_count card)) (w (symbol_count card)) (size * node_count (machines_of card) k) room e in
    let q : Passes trimmed (o (machine_count trimmed)) (w (symbol_count trimmed)) (size * node_count (machines_of trimmed) k) room' = record { accepted = ok; order = ap o lacks.count ∙ p.order; word = ap w lacks.symbols ∙ p.word; nodes_fit = rw (same_nodes lacks k) fits } in
    passes_all q

-- ---- under a ranking, for a word

module _ (ranking : List ℕ) {card trimmed word work workAfter answer answerAfter secondWork secondWorkAfter secondAnswer secondAfter : List ℕ} {r second : Evaluation} {i j : ℕ} (lacks : LacksArc card i j trimmed)
    (first : Optimizes card ranking word work workAfter answer answerAfter r) (answered : r.number ≡ 0) (call : Optimizes trimmed ranking word secondWork secondWorkAfter secondAnswer secondAfter second)
  where
    input : input_refusal card ranking word (length work) ≡ 0
    input = answered_accepts first answered

    ok : card_refusal card ≡ 0
    ok = (accepted_input card ranking word (length work) input).accepted

    input_accepted : card_refusal trimmed ≡ 0 → 8 * node_count (machines_of card) (length word) ≤ length secondWork → input_refusal trimmed ranking word (length secondWork) ≡ 0
    unfolding input_refusal
    input_accepted = passes_too lacks (λ K. refuse 7 (is_ranking K ranking)) (λ S. refuse 8 (sound_word S word)) 8 (length word) (length work) (length secondWork) input

    -- the second card gives the word the same answer, where it is accepted, the answer's candidate does not travel the arc, and work and answer slices are
    -- long enough
    pub same_answer : travels (machines_of card) i j (answered_candidate r answerAfter) ≡ false → card_refusal trimmed ≡ 0 → 8 * node_count (machines_of card) (length word) ≤ length secondWork → 2 * r.pairs ≤ length secondAnswer
        → SameAnswer r answerAfter second secondAnswer secondAfter
    unfolding best
    same_answer off ok' room fits = answer_stays (of_word word) (ranking_agrees ranking) lacks ok first answered call off ok' (input_accepted ok' room) fits

    -- where its candidate travels the arc the answer is another one: the condition is no stronger than it need be
    pub travelled_changes : travels (machines_of card) i j (answered_candidate r answerAfter) ≡ true → ¬ (SameAnswer r answerAfter second secondAnswer secondAfter)
    unfolding best
    travelled_changes = answer_changes (of_word word) (ranking_agrees ranking) lacks ok first answered call (λ e. (accepted_input trimmed ranking word (length secondWork) e).accepted)

-- ---- for words heard only in part

module _ (ranking : List ℕ) {card trimmed sets work workAfter answer answerAfter secondWork secondWorkAfter secondAnswer secondAfter : List ℕ} {r second : Evaluation} {i j : ℕ} (lacks : LacksArc card i j trimmed)
    (first : OptimizesSets card ranking sets work workAfter answer answerAfter r) (answered : r.number ≡ 0) (call : OptimizesSets trimmed ranking sets secondWork secondWorkAfter secondAnswer secondAfter second)
  where
    sets_input : sets_input_refusal card ranking sets (length work) ≡ 0
    sets_input = answered_accepts first answered

    accepts : AcceptedSetsInput card ranking sets (length work)
    accepts = accepted_sets_input card ranking sets (length work) sets_input

    sets_accepted : card_refusal trimmed ≡ 0 → 8 * node_count (machines_of card) (length sets) ≤ length secondWork → sets_input_refusal trimmed ranking sets (length secondWork) ≡ 0
    unfolding sets_input_refusal
    sets_accepted = passes_too lacks (λ K. refuse 7 (is_ranking K ranking)) (λ S. sets_refusal S sets) 8 (length sets) (length work) (length secondWork) sets_input

    pub same_answer_sets : travels (machines_of card) i j (answered_candidate r answerAfter) ≡ false → card_refusal trimmed ≡ 0 → 8 * node_count (machines_of card) (length sets) ≤ length secondWork → 2 * r.pairs ≤ length secondAnswer
        → SameAnswer r answerAfter second secondAnswer secondAfter
    unfolding best_of_sets
    same_answer_sets off ok' room fits = answer_stays (of_sets sets (accepted_bits accepts)) (ranking_agrees ranking) lacks accepts.accepted first answered call off ok' (sets_accepted ok' room) fits

    pub travelled_changes_sets : travels (machines_of card) i j (answered_candidate r answerAfter) ≡ true → ¬ (SameAnswer r answerAfter second secondAnswer secondAfter)
    unfolding best_of_sets
    travelled_changes_sets =
        answer_changes (of_sets sets (accepted_bits accepts)) (ranking_agrees ranking) lacks accepts.accepted first answered call (λ e. (accepted_sets_input trimmed ranking sets (length secondWork) e).accepted)
