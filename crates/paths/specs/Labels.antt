-- Labels: when they are closed, so that no path beats them, and when they are attained, so that a path has their cost.
use Rattle.std.specs.Prelude.{◌≡◌, refl, List, [], ◌∷◌, ℕ}
use Rattle.std.proofs.Common.{sym, ◌∙◌}
use Rattle.std.proofs.Math.Option.{Option, none, some, none-ne-some}
use Rattle.paths.specs.Costs.{Costs, Labels, AtMost, atmost_upto, atmost_none, shift_left_upto}
use Rattle.paths.specs.Pigeonhole.{Distinct}
use Rattle.paths.specs.Graph.{Alphabet, Edge, Graph, path_cost, nodes, Run, cost→run}

module _ {costs : Costs} {alphabet : Alphabet} (G : Graph costs alphabet) where
  infixl 65 ◌⊕◌
  open G use {edge, ending}
  open costs use {Cost, ◌⊕◌, ◌≺◌, total}
  open alphabet use {Letter}

  -- neither the ending of u nor an edge from u improves the label of u
  pub record ClosedAt (L : Labels costs) (u : ℕ) : Type 0 where
    pub ends : (c : Cost) → ending u ≡ some c → AtMost ◌≺◌ (L u) c
    pub edges : (p : Letter) (e : Edge Cost) (d : Cost) → edge u p ≡ some e → L e.target ≡ some d → AtMost ◌≺◌ (L u) (e.cost ⊕ d)

  -- and so at every node
  abbrev pub Closed : Labels costs → Type 0
  Closed L = (u : ℕ) → ClosedAt L u

  -- a path from u at the cost c, each of whose suffixes costs at least the label of its first node
  pub data Held (L : Labels costs) : ℕ → List Letter → Cost → Type 0 where
    halt : {u : ℕ} {c : Cost} → ending u ≡ some c → AtMost ◌≺◌ (L u) c → Held L u [] c
    step : {u : ℕ} {p : Letter} {ps : List Letter} {c : Cost} (e : Edge Cost) (d : Cost) → edge u p ≡ some e → Held L e.target ps d → c ≡ e.cost ⊕ d → AtMost ◌≺◌ (L u) c → Held L u (p ∷ ps) c

  -- such a path that passes no node twice
  pub record Attains (L : Labels costs) (u : ℕ) (c : Cost) : Type 0 where
    pub letters : List Letter
    pub held : Held L u letters c
    pub distinct : Distinct (nodes G u letters)

  -- every label is the cost of such a path
  abbrev pub Attained : Labels costs → Type 0
  Attained L = (u : ℕ) (c : Cost) → L u ≡ some c → Attains L u c

  -- ---- Theorem 1: with closed labels every path, of any length, costs at least its node's label

  pub run_lower_bound : {L : Labels costs} → Closed L → {u : ℕ} {ps : List Letter} {c : Cost} → Run G u ps c → AtMost ◌≺◌ (L u) c
  run_lower_bound K (Run.halt {u} {c} h) = (K u).ends c h
  run_lower_bound K (Run.step {u} {p} e d h r q) =
      let m = run_lower_bound K r in
      rw q (atmost_upto total ((K u).edges p e m.val h m.is) (shift_left_upto costs e.cost m.upto))

  pub lower_bound : (L : Labels costs) → Closed L → (u : ℕ) (ps : List Letter) (c : Cost) → path_cost G u ps ≡ some c → AtMost ◌≺◌ (L u) c
  lower_bound L K u ps c h = run_lower_bound K (cost→run G u ps c h)

  -- a node with no label has no path
  pub unlabelled_none : (L : Labels costs) → Closed L → (u : ℕ) → L u ≡ none → (ps : List Letter) → path_cost G u ps ≡ none
  unlabelled_none L K u l ps = go (path_cost G u ps) refl
    where
      go : (o : Option Cost) → path_cost G u ps ≡ o → o ≡ none
      go none h = refl
      go (some c) h = absurd (atmost_none l (lower_bound L K u ps c h))

  -- ---- what is held is a path, and its suffixes cost at least the labels

  pub held→run : {L : Labels costs} {u : ℕ} {ps : List Letter} {c : Cost} → Held L u ps c → Run G u ps c
  held→run (Held.halt h m) = Run.halt h
  held→run (Held.step e d h r q m) = Run.step e d h (held→run r) q

  -- where it starts: labels that are all missing are attained
  pub attained_none : (L : Labels costs) → ((u : ℕ) → L u ≡ none) → Attained L
  attained_none L h u c e = absurd (none-ne-some c (sym (h u) ∙ e))
