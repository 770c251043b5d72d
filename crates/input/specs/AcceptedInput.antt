-- What input promises that the checks before a search accept, with a word or with sets.
use Rattle.std.specs.Prelude.{◌≡◌, ◌∷◌, ◌*◌, ◌≤◌}
use Rattle.basics.specs.Words.{true, List, [], ℕ, length, leb, lit<}
use Rattle.std.proofs.Common.{leb-true, le-leb}
use Rattle.refusals.specs.Refusals.{refuse}
use Rattle.refusals.proofs.Refusals.{passed, none_first}
use Rattle.ranking.specs.Rankings.{is_ranking}
use Rattle.card.specs.Layout.{machine_count, symbol_count}
use Rattle.card.specs.Card.{card_refusal, machines_of}
use Rattle.card.specs.Accepted.{accepted}
use Rattle.product.specs.Nodes.{node_count}
use Rattle.product.specs.Answering.{before_search}
use Rattle.product.specs.Optimizing.{sound_word, input_refusal}
use Rattle.product.specs.OptimizingSets.{sets_refusal, sets_input_refusal}
use Rattle.product.specs.Laws.Words.{accepted_word}
use Rattle.product.specs.Sets.{are64_bits}
use Rattle.product.specs.Laws.SymbolSets.{AcceptedSets, accepted_sets, sets_64}

-- ---- in general: each check passes, by its number

pub record Passes (card : List ℕ) (o w need room : ℕ) : Type 0 where
  pub accepted : card_refusal card ≡ 0
  pub order : o ≡ 0
  pub word : w ≡ 0
  pub nodes_fit : need ≤ room

pub passes : (card : List ℕ) (o w need room : ℕ) → before_search card o w need room ≡ 0 → Passes card o w need room
passes card o w need room e =
    let n = leb need room in
    let a = none_first (card_refusal card) (o ∷ w ∷ refuse 9 n ∷ []) e in
    let b = none_first o (w ∷ refuse 9 n ∷ []) a.1 in
    let d = none_first w (refuse 9 n ∷ []) b.1 in
    let f = none_first (refuse 9 n) [] d.1 in
    record { accepted = a.0; order = b.0; word = d.0; nodes_fit = leb-true need room (passed 9 n (lit< tt) f.0) }

pub passes_all : {card : List ℕ} {o w need room : ℕ} → Passes card o w need room → before_search card o w need room ≡ 0
passes_all {need = need} {room = room} p = rw (p.accepted, p.order, p.word, le-leb need room p.nodes_fit)

-- ---- with a word

pub record AcceptedInput (card ranking word : List ℕ) (room : ℕ) : Type 0 where
  pub accepted : card_refusal card ≡ 0
  pub ranks : is_ranking (machine_count card) ranking ≡ true
  pub sound : sound_word (symbol_count card) word ≡ true
  pub nodes_fit : 8 * node_count (machines_of card) (length word) ≤ room

pub accepted_input : (card ranking word : List ℕ) (room : ℕ) → input_refusal card ranking word room ≡ 0 → AcceptedInput card ranking word room
unfolding input_refusal
accepted_input card ranking word room e =
    let r = is_ranking (machine_count card) ranking in
    let w = sound_word (symbol_count card) word in
    let p = passes card (refuse 7 r) (refuse 8 w) (8 * node_count (machines_of card) (length word)) room e in
    record { accepted = p.accepted; ranks = passed 7 r (lit< tt) p.order; sound = passed 8 w (lit< tt) p.word; nodes_fit = p.nodes_fit }

-- a word has at most 24 symbols
pub short_word : (S : ℕ) (word : List ℕ) → sound_word S word ≡ true → length word ≤ 24
short_word S word t = (accepted_word S word t).short

-- ---- with sets in the word's place

pub record AcceptedSetsInput (card ranking sets : List ℕ) (room : ℕ) : Type 0 where
  pub accepted : card_refusal card ≡ 0
  pub ranks : is_ranking (machine_count card) ranking ≡ true
  pub sound : AcceptedSets (symbol_count card) sets
  pub nodes_fit : 8 * node_count (machines_of card) (length sets) ≤ room

pub accepted_sets_input : (card ranking sets : List ℕ) (room : ℕ) → sets_input_refusal card ranking sets room ≡ 0 → AcceptedSetsInput card ranking sets room
unfolding sets_input_refusal
accepted_sets_input card ranking sets room e =
    let r = is_ranking (machine_count card) ranking in
    let p = passes card (refuse 7 r) (sets_refusal (symbol_count card) sets) (8 * node_count (machines_of card) (length sets)) room e in
    record { accepted = p.accepted; ranks = passed 7 r (lit< tt) p.order; sound = accepted_sets (symbol_count card) sets p.word; nodes_fit = p.nodes_fit }

-- its sets are 64-bit numbers
pub accepted_bits : {card ranking sets : List ℕ} {room : ℕ} → AcceptedSetsInput card ranking sets room → are64_bits sets ≡ true
accepted_bits {card} {sets = sets} a = sets_64 (symbol_count card) sets a.sound.symbols (accepted card a.accepted).head.counts.symbols
