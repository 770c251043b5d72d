-- Theorem, over the definitions alone: sets of one symbol each give the answer for the word, result and answer slice. It holds for every card, ranking,
-- word and pair of slices, but for one case: where a symbol is out of range and the checks before the symbol test pass, the call for sets is refused by
-- 25 and the one for the word by 8.
use Rattle.std.specs.Prelude.{◌≡◌, ◌&&◌}
use Rattle.basics.proofs.Words.{refl, Bool, not, List, Option, some, none, ℕ, length, leb, eqb, all_of}
use Rattle.ranking.specs.Rankings.{is_ranking}
use Rattle.card.specs.Layout.{machine_count, symbol_count}
use Rattle.card.specs.Card.{card_refusal}
use Rattle.product.specs.Best.{Contender}
use Rattle.product.specs.Sets.{singletons}
use Rattle.product.specs.Answering.{evaluation_of}
use Rattle.product.specs.Laws.Sets.{as_many}

-- a symbol is 0 or over S, and the checks before the symbol test pass: those of the card and the ranking, and the length limit
unfoldable pub symbol_out_of_range : List ℕ → List ℕ → List ℕ → Bool
symbol_out_of_range card ranking word =
    eqb (card_refusal card) 0 && is_ranking (machine_count card) ranking && leb (length word) 24 && not (all_of (λ x. leb 1 x && leb x (symbol_count card)) word)

-- the length answered is the word's
pub evaluated_alike : (o : Option Contender) (word : List ℕ) → evaluation_of o (singletons word) ≡ evaluation_of o word
evaluated_alike none word = refl
evaluated_alike (some b) word = rw (as_many word)
