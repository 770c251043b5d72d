-- What can be asked for, a word or the words of sets: which lists of pairs are meant, and the best of them, in every order on profiles.
use Rattle.std.specs.Prelude.{◌≡◌}
use Rattle.basics.specs.Words.{true, List, Option, ℕ}
use Rattle.machine.specs.declared.Pair.{Pair}
use Rattle.machine.specs.Machine.{Machine}
use Rattle.card.specs.Card.{machines_of, card_refusal}
use Rattle.candidate.specs.Candidates.{is_complete, IsCandidate}
use Rattle.paths.specs.Costs.{Costs}
use Rattle.product.specs.Best.{Contender, ProfileOrder}
use Rattle.product.specs.Prices.{Price, Agrees}
use Rattle.product.specs.BestCandidate.{BeatsOn, BestOf}

pub record Searches (Meant : List Machine → List Pair → Type 0) (best : ProfileOrder → List ℕ → Option Contender) : Type 1 where
  -- a list that is meant is a candidate for some word
  pub candidate : {ms : List Machine} {c : List Pair} → Meant ms c → (word : List ℕ) × IsCandidate ms word c
  -- and is meant on all machines that it is complete on
  pub complete_too : {ms ms' : List Machine} {c : List Pair} → Meant ms c → is_complete ms' c ≡ true → Meant ms' c
  -- on an accepted card the best is the best of all of them
  pub best_of_all : {costs : Costs} {price : Price costs} {better : ProfileOrder} → Agrees price better → (card : List ℕ) → card_refusal card ≡ 0 → BestOf (machines_of card) (BeatsOn better (machines_of card)) (Meant (machines_of card)) (best better card)
