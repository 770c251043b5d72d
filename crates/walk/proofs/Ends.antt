-- The start of the walk and its end. Assumes nothing.
use Rattle.std.specs.Prelude.{◌≡◌, ◌∷◌, ◌++◌, ◌⊎◌, ◌+◌, ◌*◌, ◌-◌, ◌%◌, ◌<◌, ◌≤◌}
use Rattle.basics.specs.Words.{refl, sym, ◌∙◌, ap, subst, List, [], append-nil, map, Option, some, none, Option·none-ne-some, inl, inr, ℕ, zero, suc, arith, length, get_or, take, replicate, length-map, length-append, length-replicate, List·getD-append, List·getD-eq-default, ext_get_or, get_or-append-add, dec_lt}
use Rattle.machine.specs.declared.Pair.{Pair}
use Rattle.machine.specs.Machine.{Machine, start_state}
use Rattle.ranking.specs.Profiles.{merge}
use Rattle.ranking.specs.HarmonicInequality.{merge_count}
use Rattle.card.specs.Card.{machines_of}
use Rattle.candidate.specs.Candidates.{bytes_of, count_of, marks_of, profile_of}
use Rattle.paths.specs.Costs.{Labels}
use Rattle.paths.specs.Ranked.{Ranked, ranked_costs}
use Rattle.paths.specs.Walk.{Tight, Walk, Walking, walking_start, walking_end, walk_best, walk_cost, ends_or_tight, tight_size}
use Rattle.product.specs.Nodes.{state_counts, code_of, states_of}
use Rattle.product.specs.ProductGraph.{priced_ending, card_start}
use Rattle.product.specs.JointStep.{joint_ending}
use Rattle.product.specs.Codes.{code_ending}
use Rattle.product.specs.Laws.Codes.{ending_edge}
use Rattle.product.specs.Laws.Letters.{priced_over}
use Rattle.product.specs.Laws.Setting.{node_position, node_below}
use Rattle.product.specs.Laws.Nodes.{states_of_code}
use Rattle.product.specs.Laws.JointStep.{joint_marks, joint_marks_end, starts_below}
use Rattle.product.specs.Laws.Candidates.{starts, marks_complete}
use Rattle.tables.specs.Laws.Cards.{card_machines, start_below}
use Rattle.cells.specs.declared.Cell.{Cell}
use Rattle.cells.specs.Labels.{OwnCell}
use Rattle.cells.specs.Trying.{label_from, cell_price}
use Rattle.entering.specs.Entering.{cell_graph}
use Rattle.walk.specs.declared.Written.{Written}
use Rattle.tight.specs.Labels.{cell_of}
use Rattle.walk.specs.WalkLabels.{pair_count}
use Rattle.passing.specs.Going.{EndsPre, EndingAdded}
use Rattle.walk.specs.Walked.{Walked}
use Rattle.walk.proofs.Sizes.{pairs_sized}
use Rattle.walk.proofs.Nodes.{At, Ground, Reached, pairs_written}
use Rattle.walk.proofs.Passing.{pairs_left}

zeros : (n m : ℕ) → ◌≡◌ {A = ℕ} (get_or (replicate n 0) m 0) 0
zeros zero m = refl
zeros (suc n) zero = refl
zeros (suc n) (suc m) = zeros n m

-- ---- the start

starts_front : (ms : List Machine) (n : ℕ) → length ms ≤ n → take (length ms) (replicate n start_state) ≡ map (λ m. start_state) ms
starts_front [] n h = refl
starts_front (m ∷ ms) zero h = absurd (omega arith)
starts_front (m ∷ ms) (suc n) h = ap (λ (l : List ℕ). start_state ∷ l) (starts_front ms n (omega arith))

module _ {ranked sums card ws sets : List ℕ} {size : ℕ} {L : Labels (ranked_costs 1)} (G : Ground ranked sums card ws sets size L) where
  pub starts_reached : {code state : ℕ} {label : Cell} → code ≡ card_start card → state ≡ start_state → label ≡ cell_of ranked sums code → (before : List ℕ) (c : Ranked 1) → L (card_start card) ≡ some c → 2 * pair_count c ≤ length before
      → Reached card ws sets before before size L (record { position = 0; code = code; states = replicate 6 state; label = label; pairs = 0; passed = replicate 6 0 })
  unfolding bytes_of merge
  starts_reached {code} {state} {label} first initial its before c l room = record {
    position = omega arith;
    code = below;
    states_size = refl;
    states = ap (λ (s : ℕ). take (length (machines_of card)) (replicate 6 s)) initial ∙ starts_front (machines_of card) 6 (card_machines card G.labelled.setting.accepted).machines ∙ sym states;
    follows = record {
      cost = c;
      cost_is = l;
      fits = room;
      written = [];
      count = refl;
      bytes = refl;
      answer_size = refl;
      rest = c;
      walking = subst (λ (u : ℕ). Walking (cell_graph ws card sets) L pair_count (card_start card) c [] u c) node (walking_start (cell_graph ws card sets) L pair_count (card_start card) c l);
    };
    cell = subst OwnCell (sym own) (G.own (card_start card) there);
    label = ap label_from own ∙ sym (G.stored (card_start card) there) ∙ l;
    marks = [];
    goes_on = λ qs xs h. ap (λ (ss : List ℕ). joint_marks (machines_of card) ss qs) (sym states) ∙ h;
    passed_size = refl;
    passed = λ m. zeros 6 m;
    few = λ m. omega arith;
  }
    where
      below : code < size
      below = omega (arith, first, start_below card G.labelled.setting.accepted, G.labelled.setting.states)

      there : card_start card < (length sets + 1) * size
      there = node_below G.labelled.setting 0 (card_start card) (omega arith) (omega (arith, below, first))

      own : label ≡ cell_of ranked sums (card_start card)
      own = its ∙ ap (cell_of ranked sums) first

      node : card_start card ≡ 0 * size + code
      node = omega (arith, first)

      states : states_of (state_counts (machines_of card)) code ≡ starts (machines_of card)
      states =
          ap (states_of (state_counts (machines_of card))) (first ∙ zero_row_lem)
          ∙ states_of_code (state_counts (machines_of card)) (starts (machines_of card)) (starts_below (card_machines card G.labelled.setting.accepted).sound)
        where
          zero_row_lem : card_start card ≡ code_of (state_counts (machines_of card)) (starts (machines_of card))
          zero_row_lem = omega arith

-- ---- the end

profile_length : (ms : List Machine) (c : List Pair) → length (profile_of ms c) ≡ length ms
unfolding profile_of
profile_length ms c = length-map ms (λ m. count_of (marks_of c m))

module _ {ranked sums card ws sets : List ℕ} {size : ℕ} {L : Labels (ranked_costs 1)} (G : Ground ranked sums card ws sets size L) {before answer : List ℕ} {at : At} (R : Reached card ws sets before answer size L at) where
  pub ends_pre : {n : ℕ} → n ≡ length (machines_of card) → length (take n at.states) ≡ length (machines_of card) → EndsPre card (take n at.states) (record { counts = at.passed })
  ends_pre e h = record { accepted = G.labelled.setting.accepted; size = h; profile_size = R.passed_size; fits = λ m. omega (arith, R.passed m, R.few m, pairs_written G R) }

  module _ (z : at.label.low % 65536 ≡ 0) where
    -- no pair is left, so the node ends
    record Ends : Type 0 where
      marks : List ℕ
      is : code_ending (machines_of card) at.code ≡ some marks

    left_none : pair_count R.follows.rest ≡ 0
    left_none = pairs_left G R ∙ z

    ends : Ends
    ends = go (ends_or_tight (cell_graph ws card sets) L G.labelled.closed G.labelled.attained (at.position * size + at.code) R.follows.rest R.follows.walking.label)
      where
        last : (cell_graph ws card sets).ending (at.position * size + at.code) ≡ some R.follows.rest → at.position ≡ length sets
        last h = sym (node_position G.labelled.setting at.position at.code R.code) ∙ (priced_over (cell_price ws) card sets G.labelled.setting.accepted).ends (at.position * size + at.code) R.follows.rest h

        here : at.position ≡ length sets → (cell_graph ws card sets).ending (at.position * size + at.code) ≡ priced_ending (cell_price ws) sets (machines_of card) (code_ending (machines_of card) at.code)
        here e =
            ap (λ (i : ℕ). (cell_graph ws card sets).ending (i * size + at.code)) e
            ∙ ap (λ (s : ℕ). (cell_graph ws card sets).ending (length sets * s + at.code)) G.labelled.setting.states
            ∙ ending_edge (cell_price ws) sets (machines_of card) at.code (omega (arith, R.code, G.labelled.setting.states))

        ended : (cell_graph ws card sets).ending (at.position * size + at.code) ≡ some R.follows.rest → (o : Option (List ℕ)) → code_ending (machines_of card) at.code ≡ o → Ends
        ended h none e = absurd (Option·none-ne-some R.follows.rest (sym (here (last h) ∙ ap (priced_ending (cell_price ws) sets (machines_of card)) e) ∙ h))
        ended h (some v) e = record { marks = v; is = e }

        go : ((cell_graph ws card sets).ending (at.position * size + at.code) ≡ some R.follows.rest) ⊎ ((p : Pair) × Tight (cell_graph ws card sets) L (at.position * size + at.code) p) → Ends
        go (inl h) = ended h (code_ending (machines_of card) at.code) refl
        go (inr t) = absurd (omega (arith, left_none, tight_size (cell_graph ws card sets) L (pairs_sized G.labelled) t.1 R.follows.walking.label))

    walk : Walk (cell_graph ws card sets) L (pair_count R.follows.cost) (card_start card) R.follows.written
    walk = walking_end (cell_graph ws card sets) L R.follows.walking left_none

    -- the marks of the list written
    whole : merge R.marks ends.marks ≡ profile_of (machines_of card) R.follows.written
    whole =
        (marks_complete (machines_of card) R.follows.written (merge R.marks ends.marks)
        (ap (joint_marks (machines_of card) (starts (machines_of card))) (sym (append-nil R.follows.written))
        ∙ R.goes_on [] ends.marks (joint_marks_end (machines_of card) (states_of (state_counts (machines_of card)) at.code) ∙ ends.is))).profile

    pub walked_end : (r : Written) → r.pairs ≡ at.pairs → (ss : List ℕ) → ss ≡ states_of (state_counts (machines_of card)) at.code → EndingAdded card ss (record { counts = at.passed }) r.profile → Walked card ws sets before answer L r
    walked_end r e ss states A = record {
      best = R.follows.written;
      count = e ∙ R.follows.count;
      written = R.follows.bytes;
      is_best = walk_best (cell_graph ws card sets) L (pairs_sized G.labelled) G.labelled.closed G.labelled.attained (card_start card) R.follows.cost R.follows.written R.follows.cost_is walk;
      costs = walk_cost (cell_graph ws card sets) L (pairs_sized G.labelled) G.labelled.closed G.labelled.attained (card_start card) R.follows.cost R.follows.written R.follows.cost_is walk ∙ sym R.follows.cost_is;
      profile = λ j. record { counts = same j };
    }
      where
        p : List ℕ
        p = profile_of (machines_of card) R.follows.written

        few : length (profile_of (machines_of card) R.follows.written) ≤ 6
        few = omega (arith, profile_length (machines_of card) R.follows.written, (card_machines card G.labelled.setting.accepted).machines)

        full : length (p ++ replicate (6 - length p) 0) ≡ 6
        full = rw (length-append, length-replicate) (omega (arith, few))

        count : (m : ℕ) → get_or r.profile.counts m 0 ≡ get_or p m 0
        count m =
            A.sums ends.marks (ap (joint_ending (machines_of card)) states ∙ ends.is) m
            ∙ omega (arith, R.passed m, merge_count R.marks ends.marks m, ap (λ (l : List ℕ). get_or l m 0) whole)

        at_place : (m : ℕ) → Dec (m < length p) → get_or r.profile.counts m 0 ≡ get_or (p ++ replicate (6 - length p) 0) m 0
        at_place m (yes h) = count m ∙ sym (List·getD-append p (replicate (6 - length p) 0) 0 m h)
        at_place m (no h) =
            let b : length p + (m - length p) ≡ m = omega arith in
            count m
            ∙ List·getD-eq-default p 0 {n = m} (omega arith)
            ∙ sym (zeros (6 - length p) (m - length p))
            ∙ sym (get_or-append-add p (replicate (6 - length p) 0) (m - length p) 0)
            ∙ ap (λ (n : ℕ). get_or (p ++ replicate (6 - length p) 0) n 0) b

        same : r.profile.counts ≡ p ++ replicate (6 - length p) 0
        same = ext_get_or 0 r.profile.counts (p ++ replicate (6 - length p) 0) (A.size ∙ sym full) (λ m _. at_place m (dec_lt m (length p)))
