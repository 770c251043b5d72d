-- What the search is given, from the call's parts: the order of the weights, with the marks of one machine first. Assumes nothing.
use Rattle.std.specs.Prelude.{◌≡◌, ◌+◌, ◌*◌, ◌<◌, ◌≤◌}
use Rattle.basics.proofs.Words.{refl, sym, ◌∙◌, ap, subst, Bool, true, false, false≢true, List, [], ℕ, arith, length, get_or, set, take, length-set, length-take-le, mul-le-mul_right, ne_eqb}
use Rattle.ranking.specs.Rankings.{is_ranking}
use Rattle.card.specs.Layout.{machine_count}
use Rattle.card.specs.Card.{machines_of}
use Rattle.paths.specs.Costs.{Labels}
use Rattle.paths.specs.Ranked.{ranked_costs}
use Rattle.paths.specs.Positions.{Done}
use Rattle.product.specs.Nodes.{state_counts}
use Rattle.product.specs.Setting.{position_of}
use Rattle.product.specs.Laws.Accepted.{accepted_machines}
use Rattle.tables.specs.Places.{six_places}
use Rattle.tables.proofs.Prefix.{places_six}
use Rattle.machine_weights.specs.Highs.{six_highs}
use Rattle.cells.specs.Columns.{WeightsOf}
use Rattle.grid.specs.declared.Grid.{Grid}
use Rattle.grid.specs.Grids.{GridOf}
use Rattle.insertions.specs.RankedWeights.{RankedWeights}
use Rattle.entering.specs.Entering.{cell_graph}
use Rattle.labelling.specs.Labelling.{OrderPre, SearchPre, AllLabelled}
use Rattle.labelling.proofs.Sizes.{counts_are, counts_length, machines_few}
use Rattle.product.specs.Weights.{sound_weights}
use Rattle.tables.specs.SumLabels.{label_of}
use Rattle.tables.specs.SumsDone.{AllDone}
use Rattle.weighted.specs.WeighsBy.{WeighsBy}
use Rattle.weighted.specs.FirstPlace.{card_places, first_put}
use Rattle.weighted.specs.Labelling.{LabelPre}
use Rattle.weighted.specs.Laws.Sound.{Sound, sound_are}
use Rattle.weighted.specs.Laws.FirstPlace.{first_ranking, first_place_lem, first_most}
use Rattle.weighted.specs.Laws.Prices.{weights_tie, highs_few}
use Rattle.weighted.specs.Laws.Room.{weighted_most_high, weighted_room, few_pairs}
use Rattle.weighted.specs.Laws.Done.{weighted_done}

-- ---- the order of the weights

module _ {card weights sets work : List ℕ} {grid : Grid} (Q : LabelPre card weights sets work grid.size) (G : GridOf card grid) where
  few : grid.machines ≤ 6
  few = machines_few Q.setting.accepted G

  pub counts_weigh : sound_weights (length (take grid.machines grid.counts)) weights ≡ true
  counts_weigh = subst (λ (n : ℕ). sound_weights n weights ≡ true) (sym G.machines ∙ counts_length Q.setting.accepted G) Q.weighs

  -- as many weights as machines
  pub weights_length : length weights ≡ grid.machines
  weights_length = (sound_are (machine_count card) weights Q.weighs).count ∙ sym G.machines

  pub some_weights : (0 < length weights) × (length weights ≤ 6)
  some_weights = (omega (arith, weights_length, G.machines, (accepted_machines card Q.setting.accepted).some_machine), omega (arith, weights_length, few))

  -- a machine in the first place
  module _ {k : ℕ} (below : k < length weights) where
    its_machine : k < grid.machines
    its_machine = omega (arith, weights_length)

    pub six_machines : k < 6
    six_machines = omega (arith, its_machine, few)

    pub counts_ranked : is_ranking (length (take grid.machines grid.counts)) (take grid.machines (first_put k card_places)) ≡ true
    counts_ranked = subst (λ (n : ℕ). is_ranking n (take grid.machines (first_put k card_places)) ≡ true) (counts_length Q.setting.accepted G) (first_ranking grid.machines k few its_machine)

    pub put_length : length (first_put k card_places) ≡ 6
    put_length = length-set (set card_places 0 (get_or card_places k 0)) k (get_or card_places 0 0) ∙ length-set card_places 0 (get_or card_places k 0)

    pub order_length : grid.machines ≡ length (take grid.machines (first_put k card_places))
    order_length = sym (length-take-le grid.machines (first_put k card_places) (omega (arith, few, put_length)))

  -- there are nodes
  some_nodes : length work ≡ 0 → ⊥
  some_nodes z =
      let m : 1 * grid.size ≤ (length sets + 1) * grid.size = mul-le-mul_right grid.size (omega arith) in
      omega (arith, Q.room, Q.setting.states, (accepted_machines card Q.setting.accepted).some_state)

  sound : Sound (machine_count card) weights
  sound = sound_are (machine_count card) weights Q.weighs

  module _ {ws : List ℕ} (W : WeightsOf (state_counts (machines_of card)) ws) (Y : WeighsBy weights ws) where
    module _ {k : ℕ} (below : k < length weights) {marks : List ℕ} (Z : WeightsOf (state_counts (machines_of card)) marks) (R : RankedWeights (six_places (take grid.machines (first_put k card_places))) marks) where
      its_size : length ws ≡ 3 * grid.machines
      its_size = W.size ∙ ap (λ (n : ℕ). 3 * n) (sym (counts_length Q.setting.accepted G ∙ ap length (counts_are Q.setting.accepted G)))

      weighted_order : OrderPre false card sets ws (first_put k (six_highs ws)) marks grid.size
      weighted_order = record {
        weights = W;
        marks_are = Z;
        order = six_places (take grid.machines (first_put k card_places));
        six = places_six card Q.setting.accepted (take grid.machines (first_put k card_places)) refl
            (subst (λ (n : ℕ). is_ranking n (take grid.machines (first_put k card_places)) ≡ true) G.machines (first_ranking grid.machines k few (its_machine below)));
        ranked = R;
        same = weights_tie Y (record { size = refl; below = six_machines below; place = first_place_lem grid.machines k ws (its_machine below) few its_size });
        highs_few = highs_few sound Y k (six_machines below);
        if_ranked = λ e. absurd (false≢true e);
        most = λ K six. omega (arith, weighted_most_high Y K six, first_most ws k (six_machines below));
        short = λ T u c h l.
            let r = weighted_room Q.setting sound W Y T u c h l in
            record {
              room = record { high = omega (arith, r.high, first_most ws k (six_machines below)); low = r.low };
              in_counts_lem = λ e. absurd (false≢true e);
              in_sum = λ _. (omega (arith, r.high), few_pairs Q.setting sound W Y T u c h l);
            };
      }

      pub search_ready : SearchPre [] work card grid ws (first_put k (six_highs ws)) marks sets
      search_ready = record {
        setting = Q.setting;
        grid_of = G;
        order_pre = subst (λ (b : Bool). OrderPre b card sets ws (first_put k (six_highs ws)) marks grid.size) (sym (ne_eqb (length work) 0 some_nodes)) weighted_order;
        room = record { counts = λ z. absurd (some_nodes z); in_sums = λ _. Q.room };
      }

    -- all nodes are labelled, by the weights
    pub label_done : {none work' : List ℕ} → AllLabelled card ws sets [] none work work' → AllDone card weights sets work work'
    label_done {work' = work'} A =
        let there : length work' ≡ 0 → ⊥ = λ z. some_nodes (sym A.sums_size ∙ z) in
        let same : A.labels ≡ label_of work' = λ i u. (A.labelled.held u (omega arith)).in_sum there i in
        record {
          size = A.sums_size;
          done = weighted_done Y card sets (subst (λ (L : Labels (ranked_costs 1)). Done (cell_graph ws card sets) (position_of card) L 0) same A.labelled.done);
        }
