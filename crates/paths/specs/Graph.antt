-- Graphs with a cost at each edge, and the cost of a path. Nodes are numbers. A path is told by the letters of its edges, since a node has at
-- most one edge for a letter.
use Rattle.std.specs.Prelude.{◌≡◌, ℕ, suc, ◌<◌, length}
use Rattle.std.proofs.Math.Path.{refl}
use Rattle.std.proofs.Math.Option.{Option, none, some, none-ne-some}
use mathlib.Core.List.{List, [], ◌∷◌}
use Rattle.paths.specs.Total.{Total}
use Rattle.paths.specs.Costs.{Costs}

-- the letters of the edges, in a strict total order
pub record Alphabet : Type 1 where
  pub Letter : Type 0
  pub ◌◃◌ : Letter → Letter → Type 0
  pub total : Total ◌◃◌

-- where an edge leads, and what it costs
pub record Edge (Cost : Type 0) : Type 0 where
  pub target : ℕ
  pub cost : Cost

-- a node's edge for a letter, if it has one; what it costs to end at a node, if a path may end there; and every edge costs something
pub record Graph (costs : Costs) (alphabet : Alphabet) : Type 0 where
  pub edge : ℕ → alphabet.Letter → Option (Edge costs.Cost)
  pub ending : ℕ → Option costs.Cost
  pub positive : (u : ℕ) (p : alphabet.Letter) (e : Edge costs.Cost) → edge u p ≡ some e → (c : costs.Cost) → costs.◌≺◌ c (costs.◌⊕◌ e.cost c)

module _ {costs : Costs} {alphabet : Alphabet} (G : Graph costs alphabet) where
  infixl 65 ◌⊕◌
  open G use {edge, ending}
  open costs use {Cost, ◌⊕◌}
  open alphabet use {Letter}

  abbrev pub add_to : Cost → Option Cost → Option Cost
  add_to e none = none
  add_to e (some c) = some (e ⊕ c)

  abbrev pub follow : Option (Edge Cost) → (ℕ → Option Cost) → Option Cost
  follow none k = none
  follow (some e) k = add_to e.cost (k e.target)

  -- the cost of the path that the letters tell from u: none where an edge is missing or where it may not end
  unfoldable pub path_cost : ℕ → List Letter → Option Cost
  path_cost u [] = ending u
  path_cost u (p ∷ ps) = follow (edge u p) (λ v. path_cost v ps)

  -- every edge leads to a node below N
  abbrev pub Within : ℕ → Type 0
  Within N = (u : ℕ) (p : Letter) (e : Edge Cost) → edge u p ≡ some e → e.target < N

  -- some edge leads from u to v at the cost c
  pub record EdgeTo (u v : ℕ) (c : Cost) : Type 0 where
    pub letter : Letter
    pub to : Edge Cost
    pub edge_is : edge u letter ≡ some to
    pub target_is : to.target ≡ v
    pub cost_is : to.cost ≡ c

  abbrev pub nodes_after : Option (Edge Cost) → (ℕ → List ℕ) → List ℕ
  nodes_after none k = []
  nodes_after (some e) k = k e.target

  -- the nodes that the letters pass from u, u itself and the last too
  unfoldable pub nodes : ℕ → List Letter → List ℕ
  nodes u [] = u ∷ []
  nodes u (p ∷ ps) = u ∷ nodes_after (edge u p) (λ v. nodes v ps)

  -- ---- a path as a derivation, for induction: from u the letters ps cost c

  pub data Run : ℕ → List Letter → Cost → Type 0 where
    halt : {u : ℕ} {c : Cost} → ending u ≡ some c → Run u [] c
    step : {u : ℕ} {p : Letter} {ps : List Letter} {c : Cost} (e : Edge Cost) (d : Cost) → edge u p ≡ some e → Run e.target ps d → c ≡ e.cost ⊕ d → Run u (p ∷ ps) c

  -- the same as `pathCost`
  pub run→cost : {u : ℕ} {ps : List Letter} {c : Cost} → Run u ps c → path_cost u ps ≡ some c
  unfolding path_cost
  run→cost (halt h) = h
  run→cost (step e d h r q) = rw (h, run→cost r, q)

  pub cost→run : (u : ℕ) (ps : List Letter) (c : Cost) → path_cost u ps ≡ some c → Run u ps c
  unfolding path_cost
  cost→run u [] c h = halt h
  cost→run u (p ∷ ps) c h = go (edge u p) refl h (λ v d k. cost→run v ps d k)
    where
      rest : (e : Edge Cost) (o : Option Cost) → edge u p ≡ some e → path_cost e.target ps ≡ o → add_to e.cost o ≡ some c → ((d : Cost) → path_cost e.target ps ≡ some d → Run e.target ps d) → Run u (p ∷ ps) c
      rest e none h k l rec = absurd (none-ne-some c l)
      rest e (some d) h k l rec = let q : c ≡ e.cost ⊕ d = cc in step e d h (rec d k) q

      go : (o : Option (Edge Cost)) → edge u p ≡ o → follow o (λ v. path_cost v ps) ≡ some c → ((v : ℕ) (d : Cost) → path_cost v ps ≡ some d → Run v ps d) → Run u (p ∷ ps) c
      go none h l rec = absurd (none-ne-some c l)
      go (some e) h l rec = rest e (path_cost e.target ps) h refl l (rec e.target)

  -- it passes one node more than it has letters
  pub nodes_length : {u : ℕ} {ps : List Letter} {c : Cost} → Run u ps c → length (nodes u ps) ≡ suc (length ps)
  unfolding nodes
  nodes_length (halt h) = refl
  nodes_length (step e d h r q) = rw (h, nodes_length r)
