-- What the label of the start tells of the best candidate's profile. Assumes nothing.
use Rattle.std.specs.Prelude.{◌≡◌}
use Rattle.basics.specs.Words.{refl, sym, ◌∙◌, ap, true, false≢true, List, Option, some, none, ℕ, arith, length}
use Rattle.ranking.specs.declared.Profile.{Profile}
use Rattle.ranking.specs.Lemmas.Rankings.{ranking_facts}
use Rattle.card.specs.Layout.{machine_count}
use Rattle.card.specs.Card.{machines_of}
use Rattle.card.specs.Accepted.{accepted}
use Rattle.candidate.specs.Candidates.{is_some}
use Rattle.product.specs.Best.{best}
use Rattle.product.specs.Sets.{singletons, best_of_sets}
use Rattle.product.proofs.SetsTheorem.{best_of_one_word}
use Rattle.paths.specs.Ranked.{Ranked}
use Rattle.paths.specs.Labels.{Closed, Attained}
use Rattle.tables.specs.Work.{label_of, cost_at}
use Rattle.tables.proofs.Work.{holds}
use Rattle.product.specs.ProductGraph.{card_start}
use Rattle.product.specs.Laws.Accepted.{accepted_machines}
use Rattle.product.specs.Laws.BestCandidate.{profile_length}
use Rattle.tables.specs.Engine.{engine_graph}
use Rattle.labelling.specs.Labelling.{PositionsDone}
use Rattle.readout.specs.Searching.{SetsPre, SearchPre}
use Rattle.optimizer.specs.Telling.{RankingOfSome, CardOrder, profile_told, TellsBest}
use Rattle.readout.proofs.Words.{word_small}
use Rattle.readout.proofs.Found.{FoundAt, not_found, found}

pub some_ranking : {card ranking sets work : List ℕ} {size : ℕ} → SetsPre card ranking sets work size → RankingOfSome ranking
some_ranking {card} {ranking} pre =
    let p = (ranking_facts (machine_count card) ranking pre.ranks).places in
    record { few = omega (arith, p, (accepted card pre.setting.accepted).head); ranks = rw p pre.ranks }

module _ {card ranking sets work : List ℕ} {size : ℕ} (pre : SetsPre card ranking sets work size) {after : List ℕ} (done : PositionsDone card ranking sets work after 0) where
  closed : Closed (engine_graph (machines_of card) ranking sets) (label_of after)
  closed u = done.done.closed u (omega arith)

  attained : Attained (engine_graph (machines_of card) ranking sets) (label_of after)
  attained = done.done.attained

  -- where there is a best the start has a label
  labelled : is_some (best_of_sets card ranking sets) ≡ true → label_of after (card_start card) ≡ some (cost_at after (card_start card))
  labelled t = go (label_of after (card_start card)) refl
    where
      go : (o : Option (Ranked 6)) → label_of after (card_start card) ≡ o → label_of after (card_start card) ≡ some (cost_at after (card_start card))
      go none l = absurd (false≢true (rw (not_found card ranking sets pre.setting.accepted pre.ranks pre.bits (label_of after) closed l) at t))
      go (some x) l = l ∙ ap {B = Option (Ranked 6)} some (sym (holds after (card_start card) x l).cost)

  pub best_told : is_some (best_of_sets card ranking sets) ≡ true → (u : ℕ) → u ≡ card_start card → (x : Ranked 6) → x ≡ cost_at after u → (p : Profile) → CardOrder ranking x p
      → some p ≡ profile_told (best_of_sets card ranking sets)
  best_told t u q x e p order = ap {B = Option Profile} some (order b.form.profile (length b.form.candidate) lengths (e ∙ ap (cost_at after) q ∙ b.cost)) ∙ sym (ap profile_told b.is)
    where
      b : FoundAt card ranking sets (cost_at after (card_start card))
      b = found card ranking sets pre.setting.accepted pre.ranks pre.bits (label_of after) closed attained (cost_at after (card_start card)) (labelled t)

      lengths : length b.form.profile ≡ length ranking
      lengths =
          ap length b.profile ∙ profile_length (machines_of card) b.form.candidate ∙ (accepted_machines card pre.setting.accepted).count
          ∙ sym (ranking_facts (machine_count card) ranking pre.ranks).places

-- what the search for a word's sets tells is told of the word
module _ {card ranking word work : List ℕ} {size : ℕ} (pre : SearchPre card ranking word work size) (sets : List ℕ) (are : sets ≡ singletons word) where
  same_best : best_of_sets card ranking sets ≡ best card ranking word
  same_best = ap (best_of_sets card ranking) are ∙ best_of_one_word card ranking word pre.accepted (word_small pre)

  pub sets_have_best : is_some (best card ranking word) ≡ true → is_some (best_of_sets card ranking sets) ≡ true
  sets_have_best t = rw same_best t

  pub word_told : {after : List ℕ} {p : Profile} → TellsBest (best_of_sets card ranking sets) work after p → TellsBest (best card ranking word) work after p
  word_told t = rw same_best at t
