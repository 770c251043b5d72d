-- The ways of a card as paths of the graph that the engine searches: what has a cost is a way, the cost is its profile in ranked order and its pair
-- count, and costs compared on the first k constraints are profiles compared by harmony under them.
use Rattle.std.specs.Prelude.{◌≡◌, ◌&&◌, ◌∷◌, ◌↔◌, ◌+◌, ◌*◌, ◌/◌, ◌%◌, ◌≤◌, ◌<◌}
use Rattle.basics.proofs.Words.{refl, sym, ◌∙◌, ap, subst, Bool, true, false, false≢true, List, [], Option, some, none, Option·none-ne-some, ℕ, zero, suc, arith, length, get_or, take, drop, get_or-take, length-take-le, all_of, both, left, right, mod-lt, div-lt_iff_lt-mul, div-add-mod', every_at, each_below}
use Rattle.machine.specs.declared.Pair.{Pair}
use Rattle.machine.specs.Symbols.{is_pair}
use Rattle.card.specs.Card.{machines_of, card_refusal}
use Rattle.ranking.specs.HarmonicInequality.{MoreHarmonic, better_means}
use Rattle.candidate.specs.Candidates.{spelled, profile_of}
use Rattle.paths.specs.Graph.{Edge, Graph, path_cost, Run}
use Rattle.paths.specs.Ranked.{Ranked, add, count_at, ranked_costs}
use Rattle.paths.specs.ByRanking.{ranked, ranked_count}
use Rattle.product.specs.Nodes.{product, code_of, states_of, node_of, state_counts, node_count, position_at, states_at}
use Rattle.product.specs.Sets.{fits_sets, IsCandidateOf}
use Rattle.product.specs.ProductGraph.{Move, move, ending, pairs, priced_move, priced_ending, card_start}
use Rattle.product.specs.Prices.{by_ranking}
use Rattle.product.specs.Laws.Nodes.{Positive, Below, product_positive, states_below, position_of_node, states_of_node, node_below}
use Rattle.product.specs.Laws.JointStep.{joint_marks, counts_positive, starts_below}
use Rattle.product.specs.Laws.Candidates.{starts, complete_marks, marks_complete}
use Rattle.product.specs.Laws.PathCost.{spells, cost_of, path_cost_is}
use Rattle.product.specs.Laws.Edges.{edge_of, ending_of_lem}
use Rattle.product.specs.Laws.Accepted.{accepted_machines}
use Rattle.tables.specs.Places.{six_places}
use Rattle.tables.specs.Engine.{engine_graph}
use Rattle.cull.specs.Laws.FirstPlaces.{LessOn}
use Rattle.cull.specs.Cull.{exact}
use Rattle.cull.specs.Left.{left_edge, left_ending}
use Rattle.cull.specs.FewestTold.{fewest_in}
use Rattle.cull.specs.Culling.{left_by}
use Rattle.cull.specs.Ways.{WayFrom, better_on_first, is_kept, is_left}

-- ---- the first k places of six are those of the ranking

place_of_six : (ranking : List ℕ) (i : ℕ) → i < 6 → i < length ranking → get_or (six_places ranking) i 0 ≡ get_or ranking i 0
place_of_six [] i h l = absurd (omega arith)
place_of_six (a ∷ r) zero h l = refl
place_of_six (a ∷ []) (suc i) h l = absurd (omega arith)
place_of_six (a ∷ b ∷ r) (suc zero) h l = refl
place_of_six (a ∷ b ∷ []) (suc (suc i)) h l = absurd (omega arith)
place_of_six (a ∷ b ∷ c ∷ r) (suc (suc zero)) h l = refl
place_of_six (a ∷ b ∷ c ∷ []) (suc (suc (suc i))) h l = absurd (omega arith)
place_of_six (a ∷ b ∷ c ∷ d ∷ r) (suc (suc (suc zero))) h l = refl
place_of_six (a ∷ b ∷ c ∷ d ∷ []) (suc (suc (suc (suc i)))) h l = absurd (omega arith)
place_of_six (a ∷ b ∷ c ∷ d ∷ e ∷ r) (suc (suc (suc (suc zero)))) h l = refl
place_of_six (a ∷ b ∷ c ∷ d ∷ e ∷ []) (suc (suc (suc (suc (suc i))))) h l = absurd (omega arith)
place_of_six (a ∷ b ∷ c ∷ d ∷ e ∷ f ∷ r) (suc (suc (suc (suc (suc zero))))) h l = refl
place_of_six (a ∷ b ∷ c ∷ d ∷ e ∷ f ∷ r) (suc (suc (suc (suc (suc (suc i)))))) h l = absurd (omega arith)

module _ (ranking : List ℕ) (few : length ranking ≤ 6) where
  -- the count at a place is that of the machine ranked there
  pub count_ranked : (v : List ℕ) (n i : ℕ) → i < length ranking → count_at 6 i (ranked (six_places ranking) v n) ≡ get_or v (get_or ranking i 0) 0
  count_ranked v n i h = ranked_count (six_places ranking) v n i (omega (arith, few)) ∙ ap (λ (m : ℕ). get_or v m 0) (place_of_six ranking i (omega (arith, few)) h)

  module _ (k : ℕ) (within : k ≤ length ranking) (v w : List ℕ) (n m : ℕ) where
    first : length (take k ranking) ≡ k
    first = length-take-le k ranking within

    at_first : (i : ℕ) → i < k → get_or (take k ranking) i 0 ≡ get_or ranking i 0
    at_first i h = get_or-take k ranking i 0 h

    -- ---- fewer marks of the first constraint on which they differ: better under the first k constraints

    better_less : better_on_first k ranking v w ≡ true → LessOn (count_at 6) k (ranked (six_places ranking) v n) (ranked (six_places ranking) w m)
    better_less e =
        let b : MoreHarmonic (take k ranking) v w = (better_means (take k ranking) v w).0 e in
        let l : b.place < k = omega (arith, b.ranked, first) in
        let q = at_first b.place l in
        let a : get_or v (get_or (take k ranking) b.place 0) 0 ≡ get_or v (get_or ranking b.place 0) 0 = ap (λ (x : ℕ). get_or v x 0) q in
        let c : get_or w (get_or (take k ranking) b.place 0) 0 ≡ get_or w (get_or ranking b.place 0) 0 = ap (λ (x : ℕ). get_or w x 0) q in
        record {
          place = b.place;
          among = l;
          above = λ i h. count_ranked v n i (omega arith) ∙ sym (ap (λ (x : ℕ). get_or v x 0) (at_first i (omega arith))) ∙ b.agree_above i h ∙ ap (λ (x : ℕ). get_or w x 0) (at_first i (omega arith)) ∙ sym (count_ranked w m i (omega arith));
          fewer = omega (arith, count_ranked v n b.place (omega arith), count_ranked w m b.place (omega arith), a, c, b.smaller);
        }

    less_better : LessOn (count_at 6) k (ranked (six_places ranking) v n) (ranked (six_places ranking) w m) → better_on_first k ranking v w ≡ true
    less_better b =
        let l = b.among in
        let q = at_first b.place l in
        let a : get_or v (get_or (take k ranking) b.place 0) 0 ≡ get_or v (get_or ranking b.place 0) 0 = ap (λ (x : ℕ). get_or v x 0) q in
        let c : get_or w (get_or (take k ranking) b.place 0) 0 ≡ get_or w (get_or ranking b.place 0) 0 = ap (λ (x : ℕ). get_or w x 0) q in
        (better_means (take k ranking) v w).1 (record {
          place = b.place;
          ranked = omega (arith, l, first);
          smaller = omega (arith, count_ranked v n b.place (omega arith), count_ranked w m b.place (omega arith), a, c, b.fewer);
          agree_above = λ i h. ap (λ (x : ℕ). get_or v x 0) (at_first i (omega arith)) ∙ sym (count_ranked v n i (omega arith)) ∙ b.above i h ∙ count_ranked w m i (omega arith) ∙ sym (ap (λ (x : ℕ). get_or w x 0) (at_first i (omega arith)));
        })

    pub better_is_less : (better_on_first k ranking v w ≡ true) ↔ LessOn (count_at 6) k (ranked (six_places ranking) v n) (ranked (six_places ranking) w m)
    better_is_less = (better_less, less_better)

-- ---- a node's number is that of its position and its states

code_of_states : (qs : List ℕ) → Positive qs → (c : ℕ) → c < product qs → code_of qs (states_of qs c) ≡ c
unfolding product code_of states_of
code_of_states [] p c h = omega arith
code_of_states (q ∷ qs) p c h =
    let b = product_positive qs p.1 in
    ap (λ (x : ℕ). c / product qs * product qs + x) (code_of_states qs p.1 (c % product qs) (mod-lt c b)) ∙ div-add-mod' c (product qs)

node_of_parts : (qs : List ℕ) → Positive qs → (u : ℕ) → node_of qs (position_at qs u) (states_at qs u) ≡ u
node_of_parts qs p u = ap (λ (x : ℕ). u / product qs * product qs + x) (code_of_states qs p (u % product qs) (mod-lt u (product_positive qs p))) ∙ div-add-mod' u (product qs)

-- ---- what has a cost from a node is a way from there

-- the cost x of a way, by its profile
pub record CostOfWay (card ranking sets : List ℕ) (u : ℕ) (c : List Pair) (x : Ranked 6) : Type 0 where
  pub profile : List ℕ
  pub way : WayFrom (machines_of card) sets u c profile
  pub cost : x ≡ ranked (six_places ranking) profile (length c)

module _ (card : List ℕ) (ok : card_refusal card ≡ 0) (ranking sets : List ℕ) (u : ℕ) (there : u < node_count (machines_of card) (length sets)) where
  positive : Positive (state_counts (machines_of card))
  positive = counts_positive (accepted_machines card ok).sound

  -- the position is one of 0 to n
  position : position_at (state_counts (machines_of card)) u ≤ length sets
  position =
      let h : u / product (state_counts (machines_of card)) < length sets + 1 = (div-lt_iff_lt-mul (product_positive (state_counts (machines_of card)) positive)).1 there in
      omega arith

  states : Below (state_counts (machines_of card)) (states_at (state_counts (machines_of card)) u)
  states = states_below (state_counts (machines_of card)) positive (u % product (state_counts (machines_of card))) (mod-lt u (product_positive (state_counts (machines_of card)) positive))

  cost_there : (c : List Pair)
      → path_cost (engine_graph (machines_of card) ranking sets) u c ≡ cost_of (by_ranking (six_places ranking)) sets (machines_of card) (length c) (spells sets (position_at (state_counts (machines_of card)) u) c) (joint_marks (machines_of card) (states_at (state_counts (machines_of card)) u) c)
  cost_there c =
      subst (λ (x : ℕ). path_cost (engine_graph (machines_of card) ranking sets) x c ≡ cost_of (by_ranking (six_places ranking)) sets (machines_of card) (length c) (spells sets (position_at (state_counts (machines_of card)) u) c) (joint_marks (machines_of card) (states_at (state_counts (machines_of card)) u) c))
      (node_of_parts (state_counts (machines_of card)) positive u)
      (path_cost_is (by_ranking (six_places ranking)) sets (machines_of card) (accepted_machines card ok).sound c (position_at (state_counts (machines_of card)) u) (states_at (state_counts (machines_of card)) u) position states)

  pub way_cost : (c : List Pair) (v : List ℕ) → WayFrom (machines_of card) sets u c v → path_cost (engine_graph (machines_of card) ranking sets) u c ≡ some (ranked (six_places ranking) v (length c))
  way_cost c v h = cost_there c ∙ (λ i. cost_of (by_ranking (six_places ranking)) sets (machines_of card) (length c) (both h.pairs h.spells i) (h.marks i))

  pub cost_way : (c : List Pair) (x : Ranked 6) → path_cost (engine_graph (machines_of card) ranking sets) u c ≡ some x → CostOfWay card ranking sets u c x
  cost_way c x h = go (spells sets (position_at (state_counts (machines_of card)) u) c) refl (joint_marks (machines_of card) (states_at (state_counts (machines_of card)) u) c) refl (sym (cost_there c) ∙ h)
    where
      go : (t : Bool) → spells sets (position_at (state_counts (machines_of card)) u) c ≡ t → (o : Option (List ℕ)) → joint_marks (machines_of card) (states_at (state_counts (machines_of card)) u) c ≡ o
          → cost_of (by_ranking (six_places ranking)) sets (machines_of card) (length c) t o ≡ some x → CostOfWay card ranking sets u c x
      go false t o e k = absurd (Option·none-ne-some x k)
      go true t none e k = absurd (Option·none-ne-some x k)
      go true t (some v) e k =
          let q : some (ranked (six_places ranking) v (length c)) ≡ some x = k in
          record {
            profile = v;
            way = record {
              pairs = left (all_of is_pair c) (fits_sets (drop (position_at (state_counts (machines_of card)) u) sets) (spelled c)) t;
              spells = right (all_of is_pair c) (fits_sets (drop (position_at (state_counts (machines_of card)) u) sets) (spelled c)) t;
              marks = e;
            };
            cost = sym (some_same q);
          }
        where
          value : Option (Ranked 6) → Ranked 6
          value none = x
          value (some y) = y

          some_same : {y : Ranked 6} → some y ≡ some x → y ≡ x
          some_same q = ap value q

-- ---- from the start node the ways are the candidates

pub record CandidateOfProfile (card sets : List ℕ) (c : List Pair) (v : List ℕ) : Type 0 where
  pub is : IsCandidateOf (machines_of card) sets c
  pub profile : v ≡ profile_of (machines_of card) c

module _ (card : List ℕ) (ok : card_refusal card ≡ 0) (sets : List ℕ) where
  below : Below (state_counts (machines_of card)) (starts (machines_of card))
  below = starts_below (accepted_machines card ok).sound

  pub start_there : card_start card < node_count (machines_of card) (length sets)
  start_there = node_below (state_counts (machines_of card)) 0 (starts (machines_of card)) below (length sets) (omega arith)

  start_position : position_at (state_counts (machines_of card)) (card_start card) ≡ 0
  start_position = position_of_node (state_counts (machines_of card)) 0 (starts (machines_of card)) below

  start_states : states_at (state_counts (machines_of card)) (card_start card) ≡ starts (machines_of card)
  start_states = states_of_node (state_counts (machines_of card)) 0 (starts (machines_of card)) below

  module _ (c : List Pair) where
    fits_start : fits_sets (drop (position_at (state_counts (machines_of card)) (card_start card)) sets) (spelled c) ≡ fits_sets sets (spelled c)
    fits_start = ap (λ (i : ℕ). fits_sets (drop i sets) (spelled c)) start_position

    marks_start : joint_marks (machines_of card) (states_at (state_counts (machines_of card)) (card_start card)) c ≡ joint_marks (machines_of card) (starts (machines_of card)) c
    marks_start = ap (λ (ss : List ℕ). joint_marks (machines_of card) ss c) start_states

    pub candidate_way : IsCandidateOf (machines_of card) sets c → WayFrom (machines_of card) sets (card_start card) c (profile_of (machines_of card) c)
    candidate_way h = record {
      pairs = h.is.pairs;
      spells = fits_start ∙ ap (fits_sets sets) h.is.spells ∙ h.fits;
      marks = marks_start ∙ complete_marks (machines_of card) c h.is.complete;
    }

    pub way_candidate : (v : List ℕ) → WayFrom (machines_of card) sets (card_start card) c v → CandidateOfProfile card sets c v
    way_candidate v h =
        let m = marks_complete (machines_of card) c v (sym marks_start ∙ h.marks) in
        record {
          is = record { word = spelled c; fits = sym fits_start ∙ h.spells; is = record { pairs = h.pairs; spells = refl; complete = m.complete } };
          profile = m.profile;
        }

-- ---- what the slice tells of the ways left is what is left of the graph

module _ (card ranking sets xs : List ℕ) (few : length ranking ≤ 6) (k : ℕ) (within : k ≤ length ranking) where
  abbrev G : Graph (ranked_costs 6) pairs
  G = engine_graph (machines_of card) ranking sets

  -- an arc or an ending is kept exactly when each stage keeps it by its cost
  module _ (u : ℕ) (marks : List ℕ) (n : ℕ) (there : ℕ → Option ℕ) where
    same_test : (i : ℕ) → i < k → exact (fewest_in xs i u) (count_at 6 i (ranked (six_places ranking) marks n)) (there i) ≡ exact (fewest_in xs i u) (get_or marks (get_or ranking i 0) 0) (there i)
    same_test i h = ap (λ (m : ℕ). exact (fewest_in xs i u) m (there i)) (count_ranked ranking few marks n i (omega (arith, within)))

    kept_each : is_kept ranking xs k u marks there ≡ true → (i : ℕ) → i < k → exact (fewest_in xs i u) (count_at 6 i (ranked (six_places ranking) marks n)) (there i) ≡ true
    kept_each h i l = same_test i l ∙ every_at (λ i. exact (fewest_in xs i u) (get_or marks (get_or ranking i 0) 0) (there i)) k h i l

    each_kept : ((i : ℕ) → i < k → exact (fewest_in xs i u) (count_at 6 i (ranked (six_places ranking) marks n)) (there i) ≡ true) → is_kept ranking xs k u marks there ≡ true
    each_kept h = each_below (λ i. exact (fewest_in xs i u) (get_or marks (get_or ranking i 0) 0) (there i)) k (λ i l. sym (same_test i l) ∙ h i l)

  -- a way that is left is a run of what is left
  pub left_run : (u : ℕ) (c : List Pair) → is_left (machines_of card) ranking sets xs k u c ≡ true → (x : Ranked 6) × Run (left_by card ranking sets xs k) u c x
  unfolding is_left
  left_run u [] h = go (ending sets (machines_of card) u) refl h
    where
      go : (o : Option (List ℕ)) → ending sets (machines_of card) u ≡ o → elim o [ none ↦ false | some marks ↦ is_kept ranking xs k u marks (λ i. some 0) ] ≡ true → (x : Ranked 6) × Run (left_by card ranking sets xs k) u [] x
      go none e t = absurd (false≢true t)
      go (some marks) e t = (
        ranked (six_places ranking) marks 0,
        Run.halt ((left_ending G (count_at 6) (fewest_in xs) k u (ranked (six_places ranking) marks 0)).1 (ap (priced_ending (by_ranking (six_places ranking)) sets (machines_of card)) e, kept_each u marks 0 (λ i. some 0) t)),
      )
  left_run u (p ∷ c) h = go (move sets (machines_of card) u p) refl h (λ v. left_run v c)
    where
      go : (o : Option Move) → move sets (machines_of card) u p ≡ o
          → elim o [ none ↦ false | some m ↦ is_kept ranking xs k u m.marks (λ i. fewest_in xs i m.target) && is_left (machines_of card) ranking sets xs k m.target c ] ≡ true
          → ((v : ℕ) → is_left (machines_of card) ranking sets xs k v c ≡ true → (x : Ranked 6) × Run (left_by card ranking sets xs k) v c x) → (x : Ranked 6) × Run (left_by card ranking sets xs k) u (p ∷ c) x
      go none e t rec = absurd (false≢true t)
      go (some m) e t rec =
          let a = left (is_kept ranking xs k u m.marks (λ i. fewest_in xs i m.target)) (is_left (machines_of card) ranking sets xs k m.target c) t in
          let b = right (is_kept ranking xs k u m.marks (λ i. fewest_in xs i m.target)) (is_left (machines_of card) ranking sets xs k m.target c) t in
          let r = rec m.target b in
          let d : Edge (Ranked 6) = record { target = m.target; cost = ranked (six_places ranking) m.marks 1 } in
          let q = (left_edge G (count_at 6) (fewest_in xs) k u p d).1 (ap (priced_move (by_ranking (six_places ranking)) sets (machines_of card)) e, kept_each u m.marks 1 (λ i. fewest_in xs i m.target) a) in
          (add 6 d.cost r.0, Run.step d r.0 q r.1 refl)

  -- and the other way
  pub run_left : {u : ℕ} {c : List Pair} {x : Ranked 6} → Run (left_by card ranking sets xs k) u c x → is_left (machines_of card) ranking sets xs k u c ≡ true
  unfolding is_left
  run_left (Run.halt {u} {c = x} h) =
      let a = (left_ending G (count_at 6) (fewest_in xs) k u x).0 h in
      let e = ending_of_lem (by_ranking (six_places ranking)) sets (machines_of card) u x a.0 in
      let t = each_kept u e.marks 0 (λ i. some 0) (λ i l. subst (λ (y : Ranked 6). exact (fewest_in xs i u) (count_at 6 i y) (some 0) ≡ true) e.cost_is (a.1 i l)) in
      ap (λ (o : Option (List ℕ)). elim o [ none ↦ false | some marks ↦ is_kept ranking xs k u marks (λ i. some 0) ]) e.is ∙ t
  run_left (Run.step {u} {p} {ps = c} d y h r q) =
      let a = (left_edge G (count_at 6) (fewest_in xs) k u p d).0 h in
      let e = edge_of (by_ranking (six_places ranking)) sets (machines_of card) u p d a.0 in
      let m = e.by in
      let t = each_kept u m.marks 1 (λ i. fewest_in xs i m.target) (λ i l. subst (λ (z : Edge (Ranked 6)). exact (fewest_in xs i u) (count_at 6 i z.cost) (fewest_in xs i z.target) ≡ true) (λ j. record { target = e.target_is j; cost = e.cost_is j }) (a.1 i l)) in
      let s = subst (λ (v : ℕ). is_left (machines_of card) ranking sets xs k v c ≡ true) e.target_is (run_left r) in
      ap (λ (o : Option Move). elim o [ none ↦ false | some m ↦ is_kept ranking xs k u m.marks (λ i. fewest_in xs i m.target) && is_left (machines_of card) ranking sets xs k m.target c ]) e.is ∙ both t s
