-- Labels at one position, of whose nodes some are settled and the others open: where no labelled node is open, no edge of the position improves a
-- label. Only the edges between nodes of the position are looked at here. A predicate tells the settled nodes.
use Rattle.std.specs.Prelude.{◌≡◌, ◌≢◌, ℕ}
use Rattle.std.proofs.Common.{sym, ◌∙◌}
use Rattle.std.proofs.Math.Option.{none, some, none-ne-some}
use Rattle.paths.specs.Costs.{Costs, Labels, AtMost}
use Rattle.paths.specs.Graph.{Alphabet, Edge, Graph}
use Rattle.paths.specs.Labels.{Attained}
use Rattle.paths.specs.Improvement.{Falls}

module _ {costs : Costs} {alphabet : Alphabet} (G : Graph costs alphabet) (pos : ℕ → ℕ) (i : ℕ) where
  infixl 65 ◌⊕◌
  infix 4 ◌≺◌
  open G use {edge}
  open costs use {Cost, ◌⊕◌, ◌≺◌}
  open alphabet use {Letter}

  -- K are the labels where settling began, L those at hand, D the settled nodes
  pub record Settling (K L : Labels costs) (D : ℕ → Type 0) : Type 0 where
    pub attained : Attained G L
    pub others : (w : ℕ) → pos w ≢ i → L w ≡ K w
    pub falls : Falls ◌≺◌ K L
    -- a settled node's label is at most every open node's
    pub ahead : (u w : ℕ) (c : Cost) → pos u ≡ i → pos w ≡ i → D u → ¬ (D w) → L w ≡ some c → AtMost ◌≺◌ (L u) c
    -- no edge to a settled node improves a label
    pub relaxed : (u : ℕ) (p : Letter) (e : Edge Cost) (c : Cost) → pos u ≡ i → pos e.target ≡ i → D e.target → edge u p ≡ some e → L e.target ≡ some c → AtMost ◌≺◌ (L u) (e.cost ⊕ c)

  -- no labelled node of the position is open
  abbrev pub AllSettled : Labels costs → (ℕ → Type 0) → Type 0
  AllSettled L D = (w : ℕ) → pos w ≡ i → ¬ (D w) → L w ≡ none

  pub settling_end : {K L : Labels costs} {D : ℕ → Type 0} → ((u : ℕ) → Dec (D u)) → Settling K L D → AllSettled L D
      → (u : ℕ) (p : Letter) (e : Edge Cost) (c : Cost) → pos u ≡ i → pos e.target ≡ i → edge u p ≡ some e → L e.target ≡ some c → AtMost ◌≺◌ (L u) (e.cost ⊕ c)
  settling_end {L = L} {D = D} dec S all u p e c a b h l = go (dec e.target)
    where
      go : Dec (D e.target) → AtMost ◌≺◌ (L u) (e.cost ⊕ c)
      go (yes x) = S.relaxed u p e c a b x h l
      go (no n) = absurd (none-ne-some c (sym (all e.target b n) ∙ l))
