-- The places of the ranking past its last machine: no way has a mark there.
use Rattle.std.specs.Prelude.{◌≡◌, ◌∷◌, ◌≤◌, ◌<◌}
use Rattle.basics.specs.Words.{refl, sym, ◌∙◌, ap, List, [], Option, some, none, Option·none-ne-some, ℕ, zero, suc, arith, length, get_or, length-map, List·getD-eq-default}
use Rattle.machine.specs.declared.Pair.{Pair}
use Rattle.machine.specs.Machine.{Machine, ending_of, step_of}
use Rattle.card.specs.Card.{machines_of}
use Rattle.paths.specs.Ranked.{Ranked, count_at}
use Rattle.paths.specs.ByRanking.{ranked, ranked_count}
use Rattle.paths.specs.RankedGraph.{ranked_counts}
use Rattle.paths.specs.Bounds.{run_count}
use Rattle.paths.specs.Graph.{Edge, path_cost, cost→run}
use Rattle.product.specs.JointStep.{and_those, of_each}
use Rattle.product.specs.Prices.{by_ranking}
use Rattle.product.specs.Laws.Edges.{moved, edge_of, ending_of_lem, word_ended}
use Rattle.tables.specs.Places.{six_places}
use Rattle.tables.specs.Engine.{engine_graph}

-- what each machine gives is as many as there are machines
pub each_length : {A : Type 0} (f : Machine → ℕ → Option A) (ms : List Machine) (ss : List ℕ) (xs : List A) → of_each f ms ss ≡ some xs → length xs ≡ length ms
unfolding of_each
each_length {A} f [] ss xs e = let q : [] ≡ xs = cc in ap length (sym q)
each_length {A} f (m ∷ ms) [] xs e = absurd (Option·none-ne-some xs e)
each_length {A} f (m ∷ ms) (s ∷ ss) xs e = go (f m s) (of_each f ms ss) refl e (each_length f ms ss)
  where
    go : (o : Option A) (j : Option (List A)) → of_each f ms ss ≡ j → and_those o j ≡ some xs → ((ys : List A) → of_each f ms ss ≡ some ys → length ys ≡ length ms) → length xs ≡ suc (length ms)
    go none j k q rec = absurd (Option·none-ne-some xs q)
    go (some x) none k q rec = absurd (Option·none-ne-some xs q)
    go (some x) (some ys) k q rec = let z : x ∷ ys ≡ xs = cc in ap length (sym z) ∙ ap suc (rec ys k)

module _ (card ranking sets : List ℕ) (few : length (machines_of card) ≤ 6) (i : ℕ) (small : i < 6) (past : length ranking ≤ i) where
  -- the place has the number 6
  place_six : get_or (six_places ranking) i 0 ≡ 6
  place_six = go i small past
    where
      go : (j : ℕ) → j < 6 → length ranking ≤ j → get_or (six_places ranking) j 0 ≡ 6
      go zero h l = List·getD-eq-default ranking 6 {n = 0} l
      go (suc zero) h l = List·getD-eq-default ranking 6 {n = 1} l
      go (suc (suc zero)) h l = List·getD-eq-default ranking 6 {n = 2} l
      go (suc (suc (suc zero))) h l = List·getD-eq-default ranking 6 {n = 3} l
      go (suc (suc (suc (suc zero)))) h l = List·getD-eq-default ranking 6 {n = 4} l
      go (suc (suc (suc (suc (suc zero))))) h l = List·getD-eq-default ranking 6 {n = 5} l
      go (suc (suc (suc (suc (suc (suc j)))))) h l = absurd (omega arith)

  no_count : (xs : List ℕ) (n : ℕ) → length xs ≡ length (machines_of card) → count_at 6 i (ranked (six_places ranking) xs n) ≡ 0
  no_count xs n e = ranked_count (six_places ranking) xs n i small ∙ ap (λ (j : ℕ). get_or xs j 0) place_six ∙ List·getD-eq-default xs 0 {n = 6} (omega (arith, e))

  edge_unmarked : (u : ℕ) (p : Pair) (e : Edge (Ranked 6)) → (engine_graph (machines_of card) ranking sets).edge u p ≡ some e → count_at 6 i e.cost ≤ 0
  edge_unmarked u p e h =
      let k = edge_of (by_ranking (six_places ranking)) sets (machines_of card) u p e h in
      let m = moved sets (machines_of card) u p k.by k.is in
      let l : length k.by.marks ≡ length (machines_of card) = ap length m.marks_are ∙ length-map m.steps (λ r. r.1) ∙ each_length (λ a s. step_of a s p) (machines_of card) _ m.steps m.steps_are in
      omega (arith, ap (count_at 6 i) k.cost_is, no_count k.by.marks 1 l)

  ending_unmarked : (u : ℕ) (c : Ranked 6) → (engine_graph (machines_of card) ranking sets).ending u ≡ some c → count_at 6 i c ≤ 0
  ending_unmarked u c h =
      let k = ending_of_lem (by_ranking (six_places ranking)) sets (machines_of card) u c h in
      let w = word_ended sets (machines_of card) u k.marks k.is in
      omega (arith, ap (count_at 6 i) k.cost_is, no_count k.marks 0 (each_length ending_of (machines_of card) _ k.marks w.ends))

  pub ways_unmarked : (u : ℕ) (ps : List Pair) (c : Ranked 6) → path_cost (engine_graph (machines_of card) ranking sets) u ps ≡ some c → count_at 6 i c ≡ 0
  ways_unmarked u ps c h =
      let G = engine_graph (machines_of card) ranking sets in
      omega (arith, run_count G (ranked_counts 6 G i 0 0 edge_unmarked ending_unmarked) (cost→run G u ps c h))
