-- That every edge of a graph costs something, said of a graph's edges: a graph's `positive`.
use Rattle.std.specs.Prelude.{◌≡◌, ℕ}
use Rattle.std.proofs.Math.Option.{some}
use Rattle.paths.specs.Costs.{Costs}
use Rattle.paths.specs.Graph.{Alphabet, Edge, Graph}

-- going over an edge first costs more than not
abbrev pub Costly : {costs : Costs} {alphabet : Alphabet} → Graph costs alphabet → Type 0
Costly {costs} {alphabet} G = (u : ℕ) (p : alphabet.Letter) (e : Edge costs.Cost) → G.edge u p ≡ some e → (c : costs.Cost) → costs.◌≺◌ c (costs.◌⊕◌ e.cost c)
