-- Reading the answer off the labels. Assumes nothing.
use Rattle.std.specs.Prelude.{◌≡◌, ◌∷◌, ◌+◌, ◌*◌, ◌/◌, ◌%◌, ◌<◌, ◌≤◌}
use Rattle.basics.proofs.Words.{refl, sym, ◌∙◌, ap, subst, Bool, List, [], Option, some, ℕ, arith, length, get_or, leb, ltb, dec_lt, lt-ltb, le-ltb, leb-true, ltb-true}
use Rattle.refusals.specs.Refusals.{refuse, first_of, unless_refused}
use Rattle.refusals.proofs.Refusals.{accepted as taken, not_accepted, passed, none_first}
use Rattle.machine.specs.declared.Pair.{Pair}
use Rattle.card.specs.Card.{machines_of}
use Rattle.candidate.specs.declared.Evaluation.{Evaluation}
use Rattle.candidate.specs.Candidates.{profile_of}
use Rattle.paths.specs.Costs.{Labels}
use Rattle.paths.specs.Ranked.{Ranked, ranked_costs}
use Rattle.paths.specs.Labels.{Closed}
use Rattle.paths.specs.Best.{IsBest}
use Rattle.paths.specs.Positions.{Done}
use Rattle.product.specs.Best.{Contender, contender_of}
use Rattle.product.specs.Nodes.{product, state_counts}
use Rattle.product.specs.Sets.{best_of_sets_in}
use Rattle.product.specs.Setting.{position_of, Setting}
use Rattle.product.specs.Answering.{call_refusal, evaluation_of}
use Rattle.product.specs.ProductGraph.{card_start}
use Rattle.product.specs.LabelTheorem.{BestAt}
use Rattle.product.proofs.LabelTheorem.{no_label_no_best, label_best}
use Rattle.product.proofs.SetsTheorem.{best_path_is_best_of_sets}
use Rattle.product.specs.Laws.Accepted.{accepted_machines}
use Rattle.product.specs.Laws.BestCandidate.{path_best_of_sets}
use Rattle.product.specs.Laws.Candidates.{fitting_cost}
use Rattle.product.specs.Laws.CardGraph.{start_within}
use Rattle.product.specs.Laws.Setting.{few_nodes}
use Rattle.cells.specs.Columns.{WeightsOf}
use Rattle.readout.proofs.Searched.{search_refused, search_found}
use Rattle.product.specs.Weights.{weighted_sum, by_sum}
use Rattle.product.specs.WeightedPaths.{by_weights, weights_agree, weighted_graph}
use Rattle.product.specs.SmallLabels.{label_small}
use Rattle.tables.specs.SumLabels.{no_label, cost_of, label_from, label_of}
use Rattle.tables.proofs.SumLabels.{label_at, label_some, label_none}
use Rattle.weighted.specs.WeighsBy.{WeighsBy}
use Rattle.weighted.specs.Labelling.{LabelPre}
use Rattle.walk.specs.declared.Written.{Written}
use Rattle.walk.specs.WalkLabels.{WalkLabels, WalkPre}
use Rattle.walk.specs.Walked.{Walked}
use Rattle.weights.specs.declared.Weighing.{Weighing}
use Rattle.weights.specs.Weighing.{refused_weighing, sum_of, answered_sum}
use Rattle.weights.specs.WeightedWalk.{weighted_walk_labels, weighted_walk_pre, weighted_walked}
use Rattle.weights.specs.Searching.{number_refusal, SetsPre, Searched}

pub label_ready : {card weights sets work : List ℕ} {P : ℕ} → SetsPre card weights sets work P → LabelPre card weights sets work P
label_ready pre = record { setting = pre.setting; weighs = pre.weighs; room = pre.room }

-- ---- what the start's label says

module _ {card weights sets xs : List ℕ} {P : ℕ} (pre : SetsPre card weights sets xs P) (D : Done (weighted_graph card weights sets) (position_of card) (label_of xs) 0) where
  closed : Closed (weighted_graph card weights sets) (label_of xs)
  closed u = D.closed u (omega arith)

  pub start_in : card_start card < length xs
  start_in = omega (arith, pre.room, ap (λ (n : ℕ). (length sets + 1) * n) pre.setting.states, start_within card sets pre.setting.accepted)

  pub start_few : card_start card < 3200
  start_few = omega (arith, start_in, pre.room, few_nodes pre.setting)

  start_label : label_of xs (card_start card) ≡ label_from (get_or xs (card_start card) 0)
  start_label = label_at xs (card_start card) start_in

  module _ (h : get_or xs (card_start card) 0 < no_label) where
    at : BestAt (by_weights weights) (by_sum weights) card sets (cost_of (get_or xs (card_start card) 0))
    at = label_best (weights_agree weights) card sets pre.setting.accepted pre.bits (label_of xs) closed D.attained (cost_of (get_or xs (card_start card) 0)) (start_label ∙ label_some (get_or xs (card_start card) 0) h)

  by_number : (room : ℕ) → number_refusal (get_or xs (card_start card) 0) room ≡ call_refusal 0 (best_of_sets_in (by_sum weights) card sets) room
  by_number room = go (dec_lt (get_or xs (card_start card) 0) no_label)
    where
      go : Dec (get_or xs (card_start card) 0 < no_label) → number_refusal (get_or xs (card_start card) 0) room ≡ call_refusal 0 (best_of_sets_in (by_sum weights) card sets) room
      go (yes h) =
          let b = at h in
          let n : get_or xs (card_start card) 0 % 4096 ≡ length b.contender.candidate = ap (λ (c : Ranked 1). c.1) b.cost in
          ap (λ (t : Bool). first_of (refuse 10 t ∷ refuse 12 (leb (2 * (get_or xs (card_start card) 0 % 4096)) room) ∷ [])) (lt-ltb (get_or xs (card_start card) 0) no_label h)
          ∙ ap (λ (n : ℕ). first_of (refuse 12 (leb (2 * n) room) ∷ [])) n
          ∙ sym (ap (λ (o : Option Contender). call_refusal 0 o room) b.is)
      go (no h) =
          let e = no_label_no_best (weights_agree weights) card sets pre.setting.accepted pre.bits (label_of xs) closed (start_label ∙ label_none (get_or xs (card_start card) 0) (omega arith)) in
          ap (λ (t : Bool). first_of (refuse 10 t ∷ refuse 12 (leb (2 * (get_or xs (card_start card) 0 % 4096)) room) ∷ [])) (le-ltb (get_or xs (card_start card) 0) no_label (omega arith))
          ∙ sym (ap (λ (o : Option Contender). call_refusal 0 o room) e)

  -- x is the number found at the start
  module _ (x : ℕ) (x-is : x ≡ get_or xs (card_start card) 0) where
    the_refusal : (room : ℕ) → number_refusal x room ≡ call_refusal 0 (best_of_sets_in (by_sum weights) card sets) room
    the_refusal room = ap (λ (n : ℕ). number_refusal n room) x-is ∙ by_number room

    -- a refusal
    pub refused_answered : (answer : List ℕ) (n : ℕ) (r : Weighing) → n ≡ number_refusal x (length answer) → 0 < n → r ≡ refused_weighing n → Searched weights (best_of_sets_in (by_sum weights) card sets) sets xs xs answer answer r
    unfolding answered_sum
    refused_answered answer n r e h q =
        let b = best_of_sets_in (by_sum weights) card sets in
        let m = e ∙ the_refusal (length answer) in
        record {
          searched = search_refused refl n m h (ap (λ (v : Weighing). v.evaluation) q);
          its_sum = ap (λ (v : Weighing). v.sum) q ∙ sym (not_accepted n (sum_of weights b) (λ n. 0) h) ∙ ap (λ (k : ℕ). unless_refused k (sum_of weights b) (λ n. 0)) m;
        }

    module _ (answer : List ℕ) (passes : number_refusal x (length answer) ≡ 0) where
      record Fits : Type 0 where
        label : x < no_label
        room : 2 * (x % 4096) ≤ length answer

      fits : Fits
      fits =
          let a = none_first (refuse 10 (ltb x no_label)) (refuse 12 (leb (2 * (x % 4096)) (length answer)) ∷ []) passes in
          let b = none_first (refuse 12 (leb (2 * (x % 4096)) (length answer))) [] a.1 in
          record { label = ltb-true x no_label (passed 10 (ltb x no_label) (omega arith) a.0); room = leb-true (2 * (x % 4096)) (length answer) (passed 12 (leb (2 * (x % 4096)) (length answer)) (omega arith) b.0) }

      start_is : label_of xs (card_start card) ≡ some (cost_of x)
      start_is = start_label ∙ ap label_from (sym x-is) ∙ label_some x fits.label

      -- what the walk asks for, where these are the state counts and the numbers of the machines
      module _ {counts ws : List ℕ} (counts_are : counts ≡ state_counts (machines_of card)) (Z : WeightsOf counts ws) (W : WeighsBy weights ws) where
        size_is : P ≡ product counts
        size_is = pre.setting.states ∙ ap product (sym counts_are)

        set_up : Setting card sets (product counts)
        set_up = subst (λ (n : ℕ). Setting card sets n) size_is pre.setting

        nodes : length xs ≡ (length sets + 1) * product counts
        nodes = pre.room ∙ ap (λ (n : ℕ). (length sets + 1) * n) size_is

        labels : WalkLabels [] xs card counts ws sets (length answer) (label_of xs)
        labels = weighted_walk_labels xs counts set_up weights pre.weighs nodes D counts_are Z W (length answer) (cost_of x) start_is fits.room

        pub walk_ready : WalkPre [] xs card counts ws sets P (length answer)
        walk_ready = weighted_walk_pre xs counts set_up weights pre.weighs nodes D counts_are Z W (length answer) (cost_of x) start_is fits.room size_is

        module _ {after : List ℕ} {r : Written} (w : (L : Labels (ranked_costs 1)) → WalkLabels [] xs card counts ws sets (length answer) L → Walked card ws sets answer after L r) where
          abbrev walked : Walked card ws sets answer after (label_of xs) r
          walked = w (label_of xs) labels

          abbrev best : List Pair
          best = walked.best

          is_best : IsBest (weighted_graph card weights sets) (card_start card) best
          is_best = (weighted_walked W walked).0

          the_best : best_of_sets_in (by_sum weights) card sets ≡ some (contender_of (machines_of card) best)
          the_best = best_path_is_best_of_sets (weights_agree weights) card sets pre.setting.accepted pre.bits best is_best

          -- it costs what the label says
          cost : ◌≡◌ {A = Ranked 1} (cost_of x) (weighted_sum weights (profile_of (machines_of card) best), length best)
          cost =
              let sound = (accepted_machines card pre.setting.accepted).sound in
              let a = (weighted_walked W walked).1 ∙ start_is in
              let b = fitting_cost (by_weights weights) sets sound best (path_best_of_sets (weights_agree weights) sound sets best is_best).candidate in
              cc (a, b)

          pub pairs_few : r.pairs ≤ 3199
          pairs_few =
              let s = label_small pre.setting weights pre.weighs D.attained (card_start card) (omega (arith, start_in, pre.room)) (cost_of x) start_is in
              let m : x % 4096 ≡ length best = ap (λ (c : Ranked 1). c.1) cost in
              omega (arith, walked.count, m, s.pairs)

          pub best_answered : Searched weights (best_of_sets_in (by_sum weights) card sets) sets xs xs answer after (record { evaluation = record { number = 0; profile = r.profile; pairs = r.pairs; word_length = length sets }; sum = x / 4096 })
          unfolding answered_sum
          best_answered = record {
            searched = search_found refl the_best unrefused result walked.written;
            its_sum = ap (λ (c : Ranked 1). c.0) cost ∙ sym (ap (sum_of weights) the_best) ∙ sym (taken (sum_of weights (best_of_sets_in (by_sum weights) card sets)) (λ n. 0) unrefused);
          }
            where
              unrefused : call_refusal 0 (best_of_sets_in (by_sum weights) card sets) (length answer) ≡ 0
              unrefused = sym (the_refusal (length answer)) ∙ passes

              result : ◌≡◌ {A = Evaluation} (record { number = 0; profile = r.profile; pairs = r.pairs; word_length = length sets }) (evaluation_of (some (contender_of (machines_of card) best)) sets)
              result =
                  let p = walked.profile in
                  let m = walked.count in
                  λ i. record { number = 0; profile = p i; pairs = m i; word_length = length sets }
