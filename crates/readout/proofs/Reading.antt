-- The search: what the labels say, and what is answered. Assumes nothing.
use Rattle.std.specs.Prelude.{◌≡◌, ◌++◌, ◌+◌, ◌*◌, ◌<◌, ◌≤◌}
use Rattle.basics.specs.Words.{refl, sym, ◌∙◌, ap, List, Option, some, none, ℕ, arith, length, drop, leb}
use Rattle.refusals.specs.Refusals.{refuse}
use Rattle.refusals.proofs.Refusals.{last_one}
use Rattle.machine.specs.declared.Pair.{Pair}
use Rattle.card.specs.Card.{machines_of}
use Rattle.candidate.specs.declared.Evaluation.{Evaluation}
use Rattle.candidate.specs.Candidates.{bytes_of, profile_of}
use Rattle.candidate.specs.Evaluating.{refused, profile_with}
use Rattle.product.specs.Best.{Contender}
use Rattle.product.specs.Sets.{best_of_sets}
use Rattle.product.specs.Answering.{call_refusal, evaluation_of, filled}
use Rattle.paths.specs.Ranked.{Ranked, letter_count}
use Rattle.paths.specs.ByRanking.{ranked_letters}
use Rattle.paths.specs.Labels.{Closed, Attained}
use Rattle.tables.specs.Work.{HasNode, label_of, cost_at}
use Rattle.product.specs.ProductGraph.{card_start}
use Rattle.product.specs.Prices.{ranking_agrees}
use Rattle.product.proofs.CountsFit.{best_of_sets_is_small}
use Rattle.product.specs.Laws.CardGraph.{start_within}
use Rattle.tables.specs.Engine.{engine_graph}
use Rattle.tables.specs.Places.{six_places}
use Rattle.labelling.specs.Labelling.{PositionsDone}
use Rattle.walk.specs.declared.Written.{Written}
use Rattle.walk.specs.RankedBest.{RankedWalked}
use Rattle.readout.specs.Searching.{label_refusal, SetsPre, Searched, StartFits}
use Rattle.readout.proofs.Searched.{search_refused, search_found}
use Rattle.readout.proofs.Found.{FoundAt, not_found, found, path_found}
use Rattle.readout.proofs.Labels.{start_fits}

module _ {card ranking sets work : List ℕ} {size : ℕ} (pre : SetsPre card ranking sets work size) where
  -- what reading the answer off needs
  pub read_out_pre : {after : List ℕ} → PositionsDone card ranking sets work after 0 → SetsPre card ranking sets after size × PositionsDone card ranking sets after after 0
  read_out_pre D = (record { setting = pre.setting; ranks = pre.ranks; bits = pre.bits; room = D.size ∙ pre.room }, record { size = refl; done = D.done })

  module _ {after : List ℕ} (done : PositionsDone card ranking sets work after 0) where
    closed : Closed (engine_graph (machines_of card) ranking sets) (label_of after)
    closed u = done.done.closed u (omega arith)

    attained : Attained (engine_graph (machines_of card) ranking sets) (label_of after)
    attained = done.done.attained

    pub start_there : HasNode after (card_start card)
    start_there = omega (arith, done.size, pre.room, ap (λ (n : ℕ). (length sets + 1) * n) pre.setting.states, start_within card sets pre.setting.accepted)

    -- the checks by the label of the start are those by the best candidate
    by_label : (room : ℕ) → label_refusal (label_of after (card_start card)) room ≡ call_refusal 0 (best_of_sets card ranking sets) room
    by_label room = go (label_of after (card_start card)) refl
      where
        go : (o : Option (Ranked 6)) → label_of after (card_start card) ≡ o → label_refusal o room ≡ call_refusal 0 (best_of_sets card ranking sets) room
        go none l = sym (ap (λ (b : Option Contender). call_refusal 0 b room) (not_found card ranking sets pre.setting.accepted pre.ranks pre.bits (label_of after) closed l))
        go (some x) l =
            ap (λ (n : ℕ). refuse 12 (leb (2 * n) room)) its_pairs
            ∙ sym (last_one (refuse 12 (leb (2 * length f.form.candidate) room)))
            ∙ sym (ap (λ (b : Option Contender). call_refusal 0 b room) f.is)
          where
            f : FoundAt card ranking sets x
            f = found card ranking sets pre.setting.accepted pre.ranks pre.bits (label_of after) closed attained x l

            its_pairs : letter_count 6 x ≡ length f.form.candidate
            its_pairs = ap (letter_count 6) f.cost ∙ ranked_letters (six_places ranking) f.form.profile (length f.form.candidate)

    -- and the start is where it was found
    pub at_start_lem : {n : ℕ} (room u : ℕ) → u ≡ card_start card → n ≡ label_refusal (label_of after u) room → n ≡ label_refusal (label_of after (card_start card)) room
    at_start_lem room u q e = e ∙ ap (λ (v : ℕ). label_refusal (label_of after v) room) q

    -- a refusal
    pub refused_answered : (answer : List ℕ) (n : ℕ) (r : Evaluation) → n ≡ label_refusal (label_of after (card_start card)) (length answer) → 0 < n → r ≡ refused n → Searched (best_of_sets card ranking sets) sets work after answer answer r
    refused_answered answer n r e h q = search_refused done.size n (e ∙ by_label (length answer)) h q

    -- none
    module _ {room : ℕ} (start : StartFits card after room) where
      the_best : FoundAt card ranking sets (cost_at after (card_start card))
      the_best = found card ranking sets pre.setting.accepted pre.ranks pre.bits (label_of after) closed attained (cost_at after (card_start card)) start.label_is

      module _ {answer answerAfter : List ℕ} {r : Written} (w : RankedWalked card ranking sets answer answerAfter (cost_at after (card_start card)) r) where
        -- the walk's pairs are the best candidate's
        walked_best : w.best ≡ the_best.form.candidate
        walked_best = path_found card ranking sets pre.setting.accepted pre.ranks pre.bits the_best w.best w.is_best

        walked_pairs : r.pairs ≡ length the_best.form.candidate
        walked_pairs = w.count ∙ ap length walked_best

        -- which are few
        pub walked_few : r.pairs ≤ 3199
        unfolding best_of_sets
        walked_few = omega (arith, walked_pairs, (best_of_sets_is_small (ranking_agrees ranking) card pre.setting.accepted sets pre.setting.few the_best.form the_best.is).pairs)

        -- and so is the profile
        walked_profile : r.profile ≡ profile_with the_best.form.profile
        walked_profile = w.profile ∙ ap (λ (d : List Pair). profile_with (profile_of (machines_of card) d)) walked_best ∙ sym (ap profile_with the_best.profile)

    -- the best
    pub best_answered : {answer answerAfter : List ℕ} {r : Written} → label_refusal (label_of after (card_start card)) (length answer) ≡ 0 → RankedWalked card ranking sets answer answerAfter (cost_at after (card_start card)) r
        → Searched (best_of_sets card ranking sets) sets work after answer answerAfter (record { number = 0; profile = r.profile; pairs = r.pairs; word_length = length sets })
    best_answered {answer = answer} {answerAfter = answerAfter} {r = r} passes w = search_found done.size b.is (sym (by_label (length answer)) ∙ passes) evaluated written
      where
        start : StartFits card after (length answer)
        start = start_fits card after (length answer) passes

        b : FoundAt card ranking sets (cost_at after (card_start card))
        b = the_best start

        evaluated : ◌≡◌ {A = Evaluation} (record { number = 0; profile = r.profile; pairs = r.pairs; word_length = length sets }) (evaluation_of (some b.form) sets)
        evaluated =
            let p = walked_profile start w in
            let m = walked_pairs start w in
            λ i. record { number = 0; profile = p i; pairs = m i; word_length = length sets }

        written : answerAfter ≡ filled (some b.form) answer
        written = w.written ∙ ap (λ (d : List Pair). bytes_of d ++ drop (2 * length d) answer) (walked_best start w)

pub searched_by : {b : Option Contender} {card ranking sets word work after answer answerAfter : List ℕ} {r : Evaluation} → PositionsDone card ranking sets work after 0 → Searched b word after after answer answerAfter r → Searched b word work after answer answerAfter r
searched_by D S = record { result = S.result; answer_slice = S.answer_slice; work_length = D.size }
