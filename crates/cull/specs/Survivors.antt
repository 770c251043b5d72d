-- Theorem: what a stage of the cull leaves, by what the function that runs it promises (`StageDone`). The counts in the work slice are the fewest marks
-- of the graph left so far, and the ways left from a node to an end are exactly those that no other way from there beats on the constraints gone down
-- so far, the stage's own among them. A way is a list of pairs of any length, so that loops of free insertions are among them. What is left is told by
-- the slice alone: a stage drops the arcs and the endings whose marks, with the count of the node that they lead to, are more than the count of their
-- own node.
use Rattle.std.specs.Prelude.{◌≡◌, ◌↔◌, ◌≤◌, ◌<◌}
use Rattle.basics.specs.Words.{refl, sym, ◌∙◌, ap, subst, Bool, true, false, true≢false, List, Option, none, some, ℕ, suc, arith, length}
use Rattle.machine.specs.declared.Pair.{Pair}
use Rattle.card.specs.Card.{machines_of, card_refusal}
use Rattle.candidate.specs.Candidates.{profile_of}
use Rattle.paths.specs.Costs.{AtMost}
use Rattle.paths.specs.Graph.{Graph, path_cost, Run, run→cost, cost→run}
use Rattle.paths.specs.Ranked.{Ranked, count_at, ranked_costs, count_at_add}
use Rattle.paths.specs.ByRanking.{ranked}
use Rattle.product.specs.Nodes.{node_count}
use Rattle.product.specs.Sets.{IsCandidateOf}
use Rattle.product.specs.ProductGraph.{pairs, card_start}
use Rattle.tables.specs.Places.{six_places}
use Rattle.tables.specs.Engine.{engine_graph}
use Rattle.tables.specs.Laws.Cards.{card_machines}
use Rattle.cull.specs.Laws.FirstPlaces.{LessOn, LeastOn}
use Rattle.cull.specs.Cull.{FewestBelow, survivors}
use Rattle.cull.specs.Stages.{cull_next}
use Rattle.cull.specs.FewestTold.{fewest_in}
use Rattle.cull.specs.Culling.{left_by, StageDone}
use Rattle.cull.specs.Ways.{WayFrom, better_on_first, UnbeatenWay, is_left, LeavesUnbeaten, LeftWith, CountsFewest, StageLeaves}
use Rattle.cull.specs.Laws.Ways.{count_ranked, better_is_less, way_cost, CostOfWay, cost_way, left_run, run_left, start_there, candidate_way, way_candidate}

-- for each constraint up to k, the counts are the fewest marks of it in what the stages before left; a node without a way has none
pub counts_fewest : {card ranking sets xs ys : List ℕ} {k : ℕ} → StageDone card ranking sets xs ys k → FewestBelow (engine_graph (machines_of card) ranking sets) (count_at 6) (fewest_in ys) (suc k)
counts_fewest {card} {ranking} {sets} {xs} {ys} D = cull_next 6 (engine_graph (machines_of card) ranking sets) (fewest_in ys) D.labels (λ u. refl) D.before

-- an accepted card, and a ranking with a place for each of its machines
module _ (card ranking : List ℕ) (ok : card_refusal card ≡ 0) (each : length ranking ≡ length (machines_of card)) (sets xs : List ℕ) where
  few : length ranking ≤ 6
  few = omega (arith, each, (card_machines card ok).machines)

  module _ (k : ℕ) (within : k ≤ length ranking) (F : FewestBelow (engine_graph (machines_of card) ranking sets) (count_at 6) (fewest_in xs) k) (u : ℕ) (there : u < node_count (machines_of card) (length sets)) (c : List Pair) where
    abbrev G : Graph (ranked_costs 6) pairs
    G = engine_graph (machines_of card) ranking sets

    ways : (x : Ranked 6) → (path_cost (left_by card ranking sets xs k) u c ≡ some x) ↔ ((path_cost G u c ≡ some x) × LeastOn G (count_at 6) k u x)
    ways = survivors G (count_at 6) (fewest_in xs) (count_at_add 6) k F u c

    left_unbeaten : is_left (machines_of card) ranking sets xs k u c ≡ true → UnbeatenWay (machines_of card) ranking sets k u c
    left_unbeaten h = record { profile = v.profile; way = v.way; unbeaten = λ d w y. go d w y (better_on_first k ranking w v.profile) refl }
      where
        r : (x : Ranked 6) × Run (left_by card ranking sets xs k) u c x
        r = left_run card ranking sets xs few k within u c h

        s : (x : Ranked 6) × (path_cost (left_by card ranking sets xs k) u c ≡ some x)
        s = (r.0, run→cost (left_by card ranking sets xs k) r.1)

        v : CostOfWay card ranking sets u c s.0
        v = cost_way card ok ranking sets u there c s.0 ((ways s.0).0 s.1).0

        go : (d : List Pair) (w : List ℕ) → WayFrom (machines_of card) sets u d w → (b : Bool) → better_on_first k ranking w v.profile ≡ b → b ≡ false
        go d w y false e = refl
        go d w y true e =
            let b : LessOn (count_at 6) k (ranked (six_places ranking) w (length d)) s.0 =
            subst (λ (x : Ranked 6). LessOn (count_at 6) k (ranked (six_places ranking) w (length d)) x) (sym v.cost) ((better_is_less ranking few k within w v.profile (length d) (length c)).0 e) in
            absurd (((ways s.0).0 s.1).1 d (ranked (six_places ranking) w (length d)) (way_cost card ok ranking sets u there d w y) b)

    unbeaten_left : UnbeatenWay (machines_of card) ranking sets k u c → is_left (machines_of card) ranking sets xs k u c ≡ true
    unbeaten_left a = run_left card ranking sets xs few k within (cost→run (left_by card ranking sets xs k) u c x ((ways x).1 (way_cost card ok ranking sets u there c a.profile a.way, least)))
      where
        x : Ranked 6
        x = ranked (six_places ranking) a.profile (length c)

        least : LeastOn G (count_at 6) k u x
        least d y h b =
            let v = cost_way card ok ranking sets u there d y h in
            let l : LessOn (count_at 6) k (ranked (six_places ranking) v.profile (length d)) x = subst (λ (z : Ranked 6). LessOn (count_at 6) k z x) v.cost b in
            true≢false (sym ((better_is_less ranking few k within v.profile a.profile (length d) (length c)).1 l) ∙ a.unbeaten d v.profile v.way)

  leaves_unbeaten : (k : ℕ) → k ≤ length ranking → FewestBelow (engine_graph (machines_of card) ranking sets) (count_at 6) (fewest_in xs) k → LeavesUnbeaten card ranking sets xs k
  leaves_unbeaten k within F u there c = (left_unbeaten k within F u there c, unbeaten_left k within F u there c)

  counts_told : (k : ℕ) → k < length ranking → FewestBelow (engine_graph (machines_of card) ranking sets) (count_at 6) (fewest_in xs) (suc k) → CountsFewest card ranking sets xs k
  counts_told k h F = record { fewest = fewest; no_fewer = no_fewer }
    where
      before : FewestBelow (engine_graph (machines_of card) ranking sets) (count_at 6) (fewest_in xs) k
      before i l = F i (omega arith)

      whole : (u : ℕ) (c : List Pair) (x : Ranked 6) → path_cost (left_by card ranking sets xs k) u c ≡ some x → path_cost (engine_graph (machines_of card) ranking sets) u c ≡ some x
      whole u c x g = ((survivors (engine_graph (machines_of card) ranking sets) (count_at 6) (fewest_in xs) (count_at_add 6) k before u c x).0 g).0

      fewest : (u m : ℕ) → u < node_count (machines_of card) (length sets) → fewest_in xs k u ≡ some m → LeftWith (machines_of card) ranking sets xs k u m
      fewest u m there e =
          let w = (F k (omega arith)).attained u m e in
          let v = cost_way card ok ranking sets u there w.letters w.cost (whole u w.letters w.cost w.is) in
          record {
            pairs = w.letters;
            profile = v.profile;
            way = v.way;
            left = run_left card ranking sets xs few k (omega arith) (cost→run (left_by card ranking sets xs k) u w.letters w.cost w.is);
            has = sym (count_ranked ranking few v.profile (length w.letters) k h) ∙ ap (count_at 6 k) (sym v.cost) ∙ w.has;
          }

      no_fewer : (u m : ℕ) → u < node_count (machines_of card) (length sets) → LeftWith (machines_of card) ranking sets xs k u m → AtMost ◌<◌ (fewest_in xs k u) m
      no_fewer u m there a =
          let r = left_run card ranking sets xs few k (omega arith) u a.pairs a.left in
          let g = run→cost (left_by card ranking sets xs k) r.1 in
          let q : some r.0 ≡ some (ranked (six_places ranking) a.profile (length a.pairs)) = sym (whole u a.pairs r.0 g) ∙ way_cost card ok ranking sets u there a.pairs a.profile a.way in
          let e : count_at 6 k r.0 ≡ m = count_of q ∙ count_ranked ranking few a.profile (length a.pairs) k h ∙ a.has in
          subst (λ (n : ℕ). AtMost ◌<◌ (fewest_in xs k u) n) e ((F k (omega arith)).least u a.pairs r.0 g)
        where
          value : Option (Ranked 6) → ℕ
          value none = 0
          value (some y) = count_at 6 k y

          count_of : {y z : Ranked 6} → some y ≡ some z → count_at 6 k y ≡ count_at 6 k z
          count_of q = ap value q

  pub stage_leaves : (k : ℕ) → k < length (machines_of card) → FewestBelow (engine_graph (machines_of card) ranking sets) (count_at 6) (fewest_in xs) (suc k) → StageLeaves card ranking sets xs k
  stage_leaves k h F = record { counts = counts_told k (omega (arith, each)) F; ways = leaves_unbeaten (suc k) (omega (arith, each)) F }

-- from the start node the ways are the candidates for the words with one symbol from each set: one that no candidate beats on the first k constraints
pub record UnbeatenCandidate (card ranking sets : List ℕ) (k : ℕ) (c : List Pair) : Type 0 where
  pub candidate : IsCandidateOf (machines_of card) sets c
  pub unbeaten : (d : List Pair) → IsCandidateOf (machines_of card) sets d → better_on_first k ranking (profile_of (machines_of card) d) (profile_of (machines_of card) c) ≡ false

module _ {card ranking sets xs ys : List ℕ} {k : ℕ} (ok : card_refusal card ≡ 0) (each : length ranking ≡ length (machines_of card)) (h : k < length (machines_of card)) (D : StageDone card ranking sets xs ys k) where
  pub ways_left : LeavesUnbeaten card ranking sets ys (suc k)
  ways_left = (stage_leaves card ranking ok each sets ys k h (counts_fewest D)).ways

  pub candidates_left : (c : List Pair) → (is_left (machines_of card) ranking sets ys (suc k) (card_start card) c ≡ true) ↔ UnbeatenCandidate card ranking sets (suc k) c
  candidates_left c = (to, from)
    where
      ways : (is_left (machines_of card) ranking sets ys (suc k) (card_start card) c ≡ true) ↔ UnbeatenWay (machines_of card) ranking sets (suc k) (card_start card) c
      ways = ways_left (card_start card) (start_there card ok sets) c

      to : is_left (machines_of card) ranking sets ys (suc k) (card_start card) c ≡ true → UnbeatenCandidate card ranking sets (suc k) c
      to l =
          let a = ways.0 l in
          let e = way_candidate card ok sets c a.profile a.way in
          record {
            candidate = e.is;
            unbeaten = λ d i. subst (λ (v : List ℕ). better_on_first (suc k) ranking (profile_of (machines_of card) d) v ≡ false) e.profile (a.unbeaten d (profile_of (machines_of card) d) (candidate_way card ok sets d i));
          }

      from : UnbeatenCandidate card ranking sets (suc k) c → is_left (machines_of card) ranking sets ys (suc k) (card_start card) c ≡ true
      from a = ways.1 (record {
        profile = profile_of (machines_of card) c;
        way = candidate_way card ok sets c a.candidate;
        unbeaten = λ d w y. let e = way_candidate card ok sets d w y in subst (λ (v : List ℕ). better_on_first (suc k) ranking v (profile_of (machines_of card) c) ≡ false) (sym e.profile) (a.unbeaten d e.is);
      })
