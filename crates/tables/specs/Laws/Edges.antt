-- The joint step by numbers is an edge of the product.
use Rattle.std.specs.Prelude.{◌≡◌, ◌+◌, ◌*◌, ◌<◌, ◌≤◌}
use Rattle.basics.specs.Words.{refl, sym, ◌∙◌, true, List, map, Option, some, none, Option·none-ne-some, ℕ, length, get_or, member}
use Rattle.machine.specs.declared.Pair.{Pair}
use Rattle.machine.specs.Symbols.{empty_symbol, is_pair}
use Rattle.machine.specs.Machine.{Machine}
use Rattle.paths.specs.Ranked.{Ranked}
use Rattle.paths.specs.Graph.{Edge}
use Rattle.tables.specs.Marks.{marks_cost}
use Rattle.product.specs.Nodes.{state_counts, product, states_of}
use Rattle.product.specs.JointStep.{joint_step}
use Rattle.product.specs.Prices.{by_ranking}
use Rattle.product.specs.ProductGraph.{Move}
use Rattle.product.specs.Codes.{coded, code_step}
use Rattle.product.specs.Laws.JointStep.{AllSound}
use Rattle.product.specs.Laws.Edges.{step_marks_bound}
use Rattle.product.specs.Laws.Codes.{priced_step}
use Rattle.product.specs.Laws.Codes as codes
use Rattle.tables.specs.Engine.{engine_graph}
use Rattle.tables.specs.Places.{six_places}
use Rattle.tables.specs.JointNumbers.{numbered, joint_from}
use Rattle.tables.specs.Laws.Packing.{six_cost}

-- a step by numbers as an edge to the nodes from a number on
abbrev pub edge_from : ℕ → Option (ℕ × ℕ) → Option (Edge (Ranked 6))
edge_from base none = none
edge_from base (some r) = some (record { target = base + r.0; cost = marks_cost r.1 })

-- the marks of a step by codes are at most 15 a machine
pub code_step_few : {S : ℕ} {ms : List Machine} → AllSound S ms → (c : ℕ) (p : Pair) (m : Move) → code_step ms c p ≡ some m → (i : ℕ) → get_or m.marks i 0 ≤ 15
code_step_few {ms = ms} sound c p m h = go (joint_step ms (states_of (state_counts ms) c) p) refl h
  where
    go : (o : Option (List (ℕ × ℕ))) → joint_step ms (states_of (state_counts ms) c) p ≡ o → coded (state_counts ms) o ≡ some m → (i : ℕ) → get_or m.marks i 0 ≤ 15
    go none k q i = absurd (Option·none-ne-some m q)
    go (some steps) k q i =
        let z : map (λ r. r.1) steps ≡ m.marks = cc in
        rw (← z) (step_marks_bound sound (states_of (state_counts ms) c) p steps k i)

-- the node of a position and a code
abbrev pub node_at : List Machine → ℕ → ℕ → ℕ
node_at ms i c = i * product (state_counts ms) + c

module _ (ranking sets : List ℕ) {S : ℕ} {ms : List Machine} (sound : AllSound S ms) where
  priced : (base : ℕ) (o : Option Move) → ((m : Move) → o ≡ some m → (i : ℕ) → get_or m.marks i 0 ≤ 15)
      → priced_step (by_ranking (six_places ranking)) base o ≡ edge_from base (numbered (six_places ranking) o)
  priced base none f = refl
  priced base (some m) f = let e = six_cost m.marks (f m refl) ranking in λ i. some (record { target = base + m.target; cost = sym e i })

  module _ (i a : ℕ) (h : a < product (state_counts ms)) (p : Pair) where
    -- an insertion, at every position
    pub insertion_edge_lem : i ≤ length sets → is_pair p ≡ true → p.input ≡ empty_symbol
        → (engine_graph ms ranking sets).edge (node_at ms i a) p ≡ edge_from (i * product (state_counts ms)) (joint_from (six_places ranking) ms a p)
    insertion_edge_lem k t e =
        codes.insertion_edge_lem (by_ranking (six_places ranking)) sets ms i a h p k t e
        ∙ priced (i * product (state_counts ms)) (code_step ms a p) (code_step_few sound a p)

    -- a pair that reads a symbol of the set at the position
    pub symbol_edge : (p.input ≡ empty_symbol → ⊥) → member (get_or sets i 0) p.input ≡ true
        → (engine_graph ms ranking sets).edge (node_at ms i a) p ≡ edge_from ((i + 1) * product (state_counts ms)) (joint_from (six_places ranking) ms a p)
    symbol_edge n e =
        codes.symbol_edge (by_ranking (six_places ranking)) sets ms i a h p n e
        ∙ priced ((i + 1) * product (state_counts ms)) (code_step ms a p) (code_step_few sound a p)
