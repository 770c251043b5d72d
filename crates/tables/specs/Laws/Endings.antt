-- The joint ending by its number is the product's ending.
use Rattle.std.specs.Prelude.{◌≡◌, ◌∷◌, ◌<◌, ◌≤◌}
use Rattle.basics.specs.Words.{refl, sym, ◌∙◌, ap, List, [], Option, some, none, ℕ, length, get_or}
use Rattle.machine.specs.Machine.{Machine}
use Rattle.paths.specs.Ranked.{Ranked}
use Rattle.paths.specs.ByRanking.{ranked}
use Rattle.product.specs.Nodes.{state_counts, product, states_of}
use Rattle.product.specs.Prices.{by_ranking}
use Rattle.product.specs.ProductGraph.{priced_ending}
use Rattle.product.specs.Codes.{code_ending}
use Rattle.product.specs.Laws.JointStep.{AllSound}
use Rattle.product.specs.Laws.Edges.{ending_marks_bound}
use Rattle.product.specs.Laws.Codes as codes
use Rattle.tables.specs.Engine.{engine_graph}
use Rattle.tables.specs.Places.{six_places}
use Rattle.tables.specs.JointNumbers.{ending_number, ending_from}
use Rattle.tables.specs.Endings.{without_pairs, ending_costs}
use Rattle.tables.specs.Laws.Packing.{six_cost}
use Rattle.tables.specs.Laws.Edges.{node_at}

ranked_without : (places marks : List ℕ) (n : ℕ) → without_pairs (length places) (ranked places marks n) ≡ ranked places marks 0
ranked_without [] marks n = refl
ranked_without (m ∷ places) marks n = let r = ranked_without places marks n in λ i. (get_or marks m 0, r i)

module _ (ranking sets : List ℕ) {S : ℕ} {ms : List Machine} (sound : AllSound S ms) (a : ℕ) (h : a < product (state_counts ms)) where
  -- past the last set
  pub ending_edge : (engine_graph ms ranking sets).ending (node_at ms (length sets) a) ≡ ending_costs (ending_from (six_places ranking) ms a)
  ending_edge = codes.ending_edge (by_ranking (six_places ranking)) sets ms a h ∙ go (code_ending ms a) (ending_marks_bound sound (states_of (state_counts ms) a))
    where
      go : (o : Option (List ℕ)) → ((xs : List ℕ) → o ≡ some xs → (i : ℕ) → get_or xs i 0 ≤ 15)
          → priced_ending (by_ranking (six_places ranking)) sets ms o ≡ ending_costs (ending_number (six_places ranking) o)
      go none f = refl
      go (some xs) f = ap {B = Option (Ranked 6)} some (sym (ap (without_pairs 6) (six_cost xs (f xs refl) ranking) ∙ ranked_without (six_places ranking) xs 1))
