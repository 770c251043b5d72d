-- Theorem, over the definitions alone: sets of one symbol each give the answer for the word, result and answer slice. It holds for every card, ranking,
-- word and pair of slices, but for one case: where a symbol is out of range and the checks before the symbol test pass, the call for sets is refused by
-- 25 and the one for the word by 8.
use Rattle.std.specs.Prelude.{◌≡◌, ◌&&◌, ◌∷◌, ◌*◌}
use Rattle.basics.proofs.Words.{refl, sym, ◌∙◌, Bool, true, false, not, false≢true, List, [], ℕ, zero, suc, arith, length, leb, eqb, all_of, clash}
use Rattle.std.proofs.Common.{ne_eqb}
use Rattle.refusals.specs.Refusals.{refuse, first_of}
use Rattle.ranking.specs.Rankings.{is_ranking}
use Rattle.card.specs.Layout.{machine_count, symbol_count}
use Rattle.card.specs.Card.{card_refusal, machines_of}
use Rattle.card.specs.Accepted.{accepted}
use Rattle.candidate.specs.Evaluating.{refused}
use Rattle.product.specs.Nodes.{node_count}
use Rattle.product.specs.Best.{best}
use Rattle.product.specs.Sets.{singletons, best_of_sets}
use Rattle.product.specs.Answering.{answered, answered_slice}
use Rattle.product.specs.Optimizing.{sound_word, input_refusal, optimized, optimized_answer}
use Rattle.product.specs.OptimizingSets.{sets_refusal, sets_input_refusal, optimized_sets, optimized_sets_answer}
use Rattle.product.proofs.SetsTheorem.{best_of_one_word}
use Rattle.product.specs.Laws.Words.{small_symbols}
use Rattle.product.specs.Laws.Sets.{as_many}
use Rattle.product.specs.Laws.SymbolSets.{singleton_sets}
use Rattle.product.specs.OneSymbolEach.{symbol_out_of_range, evaluated_alike}

-- ---- the checks, by what each says of the card, the ranking, the length, the symbols and the work slice

abbrev out_of : ℕ → Bool → Bool → Bool → Bool
out_of c k l s = eqb c 0 && k && l && not s

abbrev by_sets : ℕ → Bool → Bool → Bool → Bool → ℕ
by_sets c k l s w = first_of (c ∷ refuse 7 k ∷ first_of (refuse 8 l ∷ refuse 25 s ∷ []) ∷ refuse 9 w ∷ [])

abbrev by_word : ℕ → Bool → Bool → Bool → Bool → ℕ
by_word c k l s w = first_of (c ∷ refuse 7 k ∷ refuse 8 (l && s) ∷ refuse 9 w ∷ [])

in_range : (c : ℕ) (k l s w : Bool) → out_of c k l s ≡ false → by_sets c k l s w ≡ by_word c k l s w
in_range (suc c) k l s w e = refl
in_range zero false l s w e = refl
in_range zero true false s w e = refl
in_range zero true true true w e = refl
in_range zero true true false w e = absurd (false≢true (sym e))

out_of_range : (c : ℕ) (k l s w : Bool) → out_of c k l s ≡ true → (by_sets c k l s w ≡ 25) × (by_word c k l s w ≡ 8)
out_of_range (suc c) k l s w e = absurd (clash e (rw (ne_eqb (suc c) 0 (omega arith))))
out_of_range zero false l s w e = absurd (false≢true e)
out_of_range zero true false s w e = absurd (false≢true e)
out_of_range zero true true true w e = absurd (false≢true e)
out_of_range zero true true false w e = (refl, refl)

accepted_by_word : (c : ℕ) (k l s w : Bool) → by_word c k l s w ≡ 0 → (c ≡ 0) × (s ≡ true)
accepted_by_word (suc c) k l s w e = absurd (omega arith)
accepted_by_word zero false l s w e = absurd (omega arith)
accepted_by_word zero true false s w e = absurd (omega arith)
accepted_by_word zero true true true w e = (refl, refl)
accepted_by_word zero true true false w e = absurd (omega arith)

-- ---- the calls

module _ (card ranking word : List ℕ) (room : ℕ) where
  abbrev ranks : Bool
  ranks = is_ranking (machine_count card) ranking

  abbrev short : Bool
  short = leb (length word) 24

  abbrev symbols : Bool
  symbols = all_of (λ x. leb 1 x && leb x (symbol_count card)) word

  abbrev fits : Bool
  fits = leb (8 * node_count (machines_of card) (length word)) room

  sets_checked : sets_input_refusal card ranking (singletons word) room ≡ by_sets (card_refusal card) ranks short symbols fits
  unfolding sets_input_refusal sets_refusal
  sets_checked = rw (as_many word, singleton_sets (symbol_count card) word)

  -- the checks before the search
  same_input : symbol_out_of_range card ranking word ≡ false → sets_input_refusal card ranking (singletons word) room ≡ input_refusal card ranking word room
  unfolding symbol_out_of_range input_refusal sound_word
  same_input e = sets_checked ∙ in_range (card_refusal card) ranks short symbols fits e

  other_input : symbol_out_of_range card ranking word ≡ true → (sets_input_refusal card ranking (singletons word) room ≡ 25) × (input_refusal card ranking word room ≡ 8)
  unfolding symbol_out_of_range input_refusal sound_word
  other_input e = let p = out_of_range (card_refusal card) ranks short symbols fits e in (sets_checked ∙ p.0, p.1)

  one_best : input_refusal card ranking word room ≡ 0 → best_of_sets card ranking (singletons word) ≡ best card ranking word
  unfolding input_refusal sound_word
  one_best e =
      let p = accepted_by_word (card_refusal card) ranks short symbols fits e in
      best_of_one_word card ranking word p.0 (small_symbols (symbol_count card) word (accepted card p.0).head.counts.symbols p.1)

  -- the result is that for the word
  pub one_symbol_result : symbol_out_of_range card ranking word ≡ false → (answerRoom : ℕ) → optimized_sets card ranking (singletons word) room answerRoom ≡ optimized card ranking word room answerRoom
  unfolding answered
  one_symbol_result t answerRoom = go (input_refusal card ranking word room) refl
    where
      go : (n : ℕ) → input_refusal card ranking word room ≡ n → optimized_sets card ranking (singletons word) room answerRoom ≡ optimized card ranking word room answerRoom
      go zero e = rw (same_input t, e, one_best e, evaluated_alike (best card ranking word) word)
      go (suc n) e = rw (same_input t, e)

  -- or 25 against 8
  pub one_symbol_refused : symbol_out_of_range card ranking word ≡ true → (answerRoom : ℕ) → (optimized_sets card ranking (singletons word) room answerRoom ≡ refused 25) × (optimized card ranking word room answerRoom ≡ refused 8)
  unfolding answered
  one_symbol_refused t answerRoom = let p = other_input t in (rw p.0, rw p.1)

  -- and the answer slice is that for the word in any case
  pub one_symbol_answer : (answer : List ℕ) → optimized_sets_answer card ranking (singletons word) room answer ≡ optimized_answer card ranking word room answer
  unfolding answered_slice
  one_symbol_answer answer = go (symbol_out_of_range card ranking word) refl (input_refusal card ranking word room) refl
    where
      go : (b : Bool) → symbol_out_of_range card ranking word ≡ b → (n : ℕ) → input_refusal card ranking word room ≡ n → optimized_sets_answer card ranking (singletons word) room answer ≡ optimized_answer card ranking word room answer
      go true t n e = let p = other_input t in rw (p.0, p.1)
      go false t zero e = rw (same_input t, e, one_best e)
      go false t (suc n) e = rw (same_input t, e)
