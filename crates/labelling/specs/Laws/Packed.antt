-- The engine's graph with its costs packed into two numbers is the graph of the cells, by the ranked weights.
use Rattle.std.specs.Prelude.{◌≡◌, ◌∷◌, ◌+◌, ◌/◌, ◌%◌, ◌≤◌}
use Rattle.basics.specs.Words.{refl, sym, ◌∙◌, ap, List, [], Option, some, none, Option·none-ne-some, ℕ, suc, arith, length, length-map}
use Rattle.machine.specs.declared.Pair.{Pair}
use Rattle.machine.specs.Machine.{Machine}
use Rattle.card.specs.Card.{machines_of, card_refusal}
use Rattle.product.specs.Nodes.{state_counts, states_at}
use Rattle.product.specs.JointStep.{and_those, of_each}
use Rattle.product.specs.Prices.{by_ranking}
use Rattle.product.specs.ProductGraph.{Move, move, ending, priced_move, priced_ending}
use Rattle.product.specs.Laws.Edges.{moved, word_ended}
use Rattle.tables.specs.Engine.{engine_graph}
use Rattle.tables.specs.Places.{six_places}
use Rattle.tables.specs.Laws.Cards.{card_machines}
use Rattle.settling.specs.Packing.{packed_edge, packed_path, Packs}
use Rattle.cells.specs.Cells.{high_of, low_of}
use Rattle.cells.specs.Columns.{weighed}
use Rattle.cells.specs.Trying.{cell_price}
use Rattle.cells.specs.Laws.Weighed.{weighed_whole}
use Rattle.insertions.specs.RankedWeights.{RankedWeights}
use Rattle.insertions.specs.Laws.Ranked.{ranked_high, ranked_low}
use Rattle.entering.specs.Entering.{cell_graph}
use Rattle.closing.specs.CountsPacking.{first_counts, last_counts, counts_packing}

module _ (ranking : List ℕ) {ws : List ℕ} (R : RankedWeights (six_places ranking) ws) (whole : (m : ℕ) → high_of ws m % 256 ≡ 0) where
  -- the ranked price of marks and a number of pairs, packed, is the price of cells
  pub price_packs : (marks : List ℕ) → length marks ≤ 6 → (n : ℕ) → counts_packing.edge ((by_ranking (six_places ranking)).of marks n) ≡ (cell_price ws).of marks n
  unfolding counts_packing
  price_packs marks few n =
      let a : first_counts ((by_ranking (six_places ranking)).of marks n) ≡ weighed (λ m. high_of ws m / 256) 0 marks = omega (arith, weighed_whole (high_of ws) whole 0 marks, ranked_high R refl marks few) in
      let b : last_counts ((by_ranking (six_places ranking)).of marks n) ≡ weighed (low_of ws) 0 marks + n = omega (arith, ranked_low R refl marks few) in
      λ i. (a i, b i)

-- ---- a move and an ending have a number of marks for each machine

each_length : {A : Type 0} (f : Machine → ℕ → Option A) (ms : List Machine) (ss : List ℕ) (xs : List A) → of_each f ms ss ≡ some xs → length xs ≡ length ms
unfolding of_each
each_length {A} f [] ss xs e = let z : xs ≡ [] = cc in rw z refl
each_length f (m ∷ ms) [] xs e = absurd (Option·none-ne-some xs e)
each_length {A} f (m ∷ ms) (s ∷ ss) xs e = go (f m s) (of_each f ms ss) (each_length f ms ss) e
  where
    go : (o : Option A) (r : Option (List A)) → ((ys : List A) → r ≡ some ys → length ys ≡ length ms) → and_those o r ≡ some xs → length xs ≡ suc (length ms)
    go none r h q = absurd (Option·none-ne-some xs q)
    go (some x) none h q = absurd (Option·none-ne-some xs q)
    go (some x) (some ys) h q = let z : xs ≡ x ∷ ys = cc in rw z (ap suc (h ys refl))

module _ (sets : List ℕ) (ms : List Machine) where
  pub move_length : (u : ℕ) (p : Pair) (m : Move) → move sets ms u p ≡ some m → length m.marks ≡ length ms
  move_length u p m h =
      let k = moved sets ms u p m h in
      ap length k.marks_are ∙ length-map k.steps (λ r. r.1) ∙ each_length _ ms (states_at (state_counts ms) u) k.steps k.steps_are

  pub ending_length : (u : ℕ) (xs : List ℕ) → ending sets ms u ≡ some xs → length xs ≡ length ms
  ending_length u xs h = each_length _ ms (states_at (state_counts ms) u) xs (word_ended sets ms u xs h).ends

-- ---- the graphs

module _ (ranking : List ℕ) {ws : List ℕ} (R : RankedWeights (six_places ranking) ws) (whole : (m : ℕ) → high_of ws m % 256 ≡ 0) (card sets : List ℕ) (ok : card_refusal card ≡ 0) where
  ranked_edge : (o : Option Move) → ((m : Move) → o ≡ some m → length m.marks ≤ 6)
      → priced_move (cell_price ws) sets (machines_of card) o ≡ packed_edge counts_packing (priced_move (by_ranking (six_places ranking)) sets (machines_of card) o)
  ranked_edge none h = refl
  ranked_edge (some m) h = let e = price_packs ranking R whole m.marks (h m refl) 1 in λ i. some (record { target = m.target; cost = sym e i })

  ranked_ending : (o : Option (List ℕ)) → ((xs : List ℕ) → o ≡ some xs → length xs ≤ 6)
      → priced_ending (cell_price ws) sets (machines_of card) o ≡ packed_path counts_packing (priced_ending (by_ranking (six_places ranking)) sets (machines_of card) o)
  unfolding counts_packing
  ranked_ending none h = refl
  ranked_ending (some xs) h = let e = price_packs ranking R whole xs (h xs refl) 0 in λ i. some (sym e i)

  pub ranked_packs : Packs counts_packing (engine_graph (machines_of card) ranking sets) (cell_graph ws card sets)
  ranked_packs = record {
    edges = λ u p. ranked_edge (move sets (machines_of card) u p) (λ m h. omega (arith, move_length sets (machines_of card) u p m h, (card_machines card ok).machines));
    endings = λ u. ranked_ending (ending sets (machines_of card) u) (λ xs h. omega (arith, ending_length sets (machines_of card) u xs h, (card_machines card ok).machines));
  }
