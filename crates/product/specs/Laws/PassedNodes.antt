-- A path of the product passes the nodes of its list of pairs, each by its number.
use Rattle.std.specs.Prelude.{◌≡◌, ◌∷◌, ◌+◌}
use Rattle.basics.specs.Words.{refl, sym, ◌∙◌, ap, subst, cond, List, [], map, some, ℕ, suc, length, length-map, eqb}
use Rattle.std.proofs.Common.{eq-eqb, ne_eqb}
use Rattle.machine.specs.declared.Pair.{Pair}
use Rattle.machine.specs.Symbols.{empty_symbol}
use Rattle.machine.specs.Machine.{Machine}
use Rattle.paths.specs.Costs.{Costs}
use Rattle.paths.specs.Pigeonhole.{NotIn, Distinct}
use Rattle.paths.specs.Graph.{Edge, nodes, nodes_after, Run, halt, step, nodes_length}
use Rattle.product.specs.Nodes.{state_counts, node_of, position_at, states_at}
use Rattle.product.specs.JointStep.{joint_step}
use Rattle.product.specs.Prices.{Price}
use Rattle.product.specs.ProductGraph.{product_graph, start_node, advance}
use Rattle.product.specs.PassedNodes.{Node, first_node, node_after, nodes_from, nodes_of}
use Rattle.product.specs.Laws.Nodes.{Below, position_of_node, states_of_node}
use Rattle.product.specs.Laws.JointStep.{AllSound, starts_below, joint_below}
use Rattle.product.specs.Laws.Edges.{Advanced, stays, goes_on, advanced, moved, edge_of}

-- what a function keeps apart is apart
notin_map : {A B : Type 0} (f : A → B) (x : A) (l : List A) → NotIn (f x) (map f l) → NotIn x l
notin_map f x [] h = tt
notin_map f x (y ∷ l) h = (λ e. h.0 (ap f e), notin_map f x l h.1)

distinct_map : {A B : Type 0} (f : A → B) (l : List A) → Distinct (map f l) → Distinct l
distinct_map f [] h = tt
distinct_map f (x ∷ l) h = (notin_map f x l h.0, distinct_map f l h.1)

-- where a pair leads
position_after : {sets : List ℕ} {i j : ℕ} {p : Pair} → Advanced sets i p j → j ≡ cond (eqb p.input empty_symbol) i (i + 1)
position_after {p = p} (stays e q h) = rw (eq-eqb p.input empty_symbol e) q
position_after {p = p} (goes_on e q h k) = rw (ne_eqb p.input empty_symbol e) q

-- one pair more in front
nodes_next : (ms : List Machine) (u : Node) (p : Pair) (ps : List Pair) (steps : List (ℕ × ℕ)) → joint_step ms u.states p ≡ some steps → nodes_from ms u (p ∷ ps) ≡ u ∷ nodes_from ms (node_after u p steps) ps
unfolding nodes_from
nodes_next ms u p ps steps e = rw (e, nodes_from)

module _ {costs : Costs} (price : Price costs) (sets : List ℕ) {ms : List Machine} {S : ℕ} (sound : AllSound S ms) where
  abbrev number : Node → ℕ
  number u = node_of (state_counts ms) u.position u.states

  path_next : (u : ℕ) (p : Pair) (ps : List Pair) (t : Edge costs.Cost) → (product_graph price sets ms).edge u p ≡ some t → nodes (product_graph price sets ms) u (p ∷ ps) ≡ u ∷ nodes (product_graph price sets ms) t.target ps
  unfolding nodes
  path_next u p ps t h = ap (λ o. u ∷ nodes_after (product_graph price sets ms) o (λ v. nodes (product_graph price sets ms) v ps)) h

  passed_from : {u : ℕ} {c : List Pair} {x : costs.Cost} → Run (product_graph price sets ms) u c x → (v : Node) → u ≡ number v → Below (state_counts ms) v.states
      → nodes (product_graph price sets ms) u c ≡ map number (nodes_from ms v c)
  unfolding nodes nodes_from
  passed_from (halt h) v e b = λ i. e i ∷ []
  passed_from (step {u} {p} {ps} t d h r q) v e b =
      let k = edge_of price sets ms u p t h in
      let m = moved sets ms u p k.by k.is in
      let position : position_at (state_counts ms) u ≡ v.position = ap (position_at (state_counts ms)) e ∙ position_of_node (state_counts ms) v.position v.states b in
      let states : states_at (state_counts ms) u ≡ v.states = ap (states_at (state_counts ms)) e ∙ states_of_node (state_counts ms) v.position v.states b in
      let steps : joint_step ms v.states p ≡ some m.steps = sym (ap (λ ss. joint_step ms ss p) states) ∙ m.steps_are in
      let goes = position_after (advanced sets v.position p m.position (sym (ap (λ i. advance sets i p) position) ∙ m.advances)) in
      let there : t.target ≡ number (node_after v p m.steps) = k.target_is ∙ m.target_is ∙ ap (λ i. node_of (state_counts ms) i (map (λ r. r.0) m.steps)) goes in
      let rest = passed_from r (node_after v p m.steps) there (joint_below sound v.states p m.steps steps) in
      path_next u p ps t h ∙ (λ i. e i ∷ rest i) ∙ sym (ap (map number) (nodes_next ms v p ps m.steps steps))

  -- from the start
  module _ {c : List Pair} {x : costs.Cost} (r : Run (product_graph price sets ms) (start_node ms) c x) where
    pub passed_nodes : nodes (product_graph price sets ms) (start_node ms) c ≡ map number (nodes_of ms c)
    passed_nodes = passed_from r (first_node ms) refl (starts_below sound)

    pub passes_each : length (nodes_of ms c) ≡ suc (length c)
    passes_each = sym (length-map (nodes_of ms c) number) ∙ sym (ap length passed_nodes) ∙ nodes_length (product_graph price sets ms) r

    pub passes_distinct : Distinct (nodes (product_graph price sets ms) (start_node ms) c) → Distinct (nodes_of ms c)
    passes_distinct h = distinct_map number (nodes_of ms c) (subst (λ (l : List ℕ). Distinct l) passed_nodes h)
