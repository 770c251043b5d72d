-- What is left after the first k constraints, told by the graph's own edges and endings and the labels of the k stages alone.
use Rattle.std.specs.Prelude.{◌≡◌, ◌↔◌, ◌<◌}
use Rattle.basics.specs.Words.{refl, ap, subst, Bool, true, false, Option, none, some, ℕ, zero, suc, arith}
use Rattle.paths.specs.Costs.{Costs}
use Rattle.paths.specs.Graph.{Alphabet, Edge, Graph}
use Rattle.stage.specs.Below.{Below, below_none, below_next}
use Rattle.cull.specs.Cull.{keep, keep_is, keeps_edge, keeps_ending, cull, Fewest, left, FewestBelow}
use Rattle.cull.specs.Subgraph.{Subgraph}

-- one stage more keeps what the test k passes
keep_next : {A : Type 0} (k : ℕ) (test : ℕ → A → Bool) (o o' : Option A) (x : A) → ((o' ≡ some x) ↔ ((o ≡ some x) × Below (λ i. test i x ≡ true) k)) → (keep (test k) o' ≡ some x) ↔ ((o ≡ some x) × Below (λ i. test i x ≡ true) (suc k))
keep_next k test o o' x f = (to, from)
  where
    to : keep (test k) o' ≡ some x → (o ≡ some x) × Below (λ i. test i x ≡ true) (suc k)
    to h =
        let a = (keep_is (test k) o' x).0 h in
        let b = f.0 a.0 in
        (b.0, below_next (λ i. test i x ≡ true) k b.1 a.1)

    from : (o ≡ some x) × Below (λ i. test i x ≡ true) (suc k) → keep (test k) o' ≡ some x
    from h = (keep_is (test k) o' x).1 (f.1 (h.0, λ i l. h.1 i (omega arith)), h.1 k (omega arith))

-- what a stage drops is gone
gone : {A : Type 0} (k : ℕ) (test : ℕ → A → Bool) (o o' : Option A) → ((x : A) → o' ≡ some x → (o ≡ some x) × Below (λ i. test i x ≡ true) k) → (x : A) → o ≡ some x → (i : ℕ) → i < k → test i x ≡ false → o' ≡ none
gone {A} k test o o' f x h i l d = go o' refl
  where
    go : (z : Option A) → o' ≡ z → z ≡ none
    go none e = refl
    go (some y) e =
        let a = f y e in
        let q : x ≡ y = cc (a.0, h) in
        let c = a.1 i l in
        let z : ◌≡◌ {A = ℕ} 0 1 = cc (ap (test i) q) in
        absurd (omega arith)

module _ {costs : Costs} {alphabet : Alphabet} (G : Graph costs alphabet) (marks : ℕ → costs.Cost → ℕ) (fewest : ℕ → ℕ → Option ℕ) where
  open costs use {Cost}
  open alphabet use {Letter}

  -- what is left depends on the labels of those stages alone
  pub left_same : (f : ℕ → ℕ → Option ℕ) (k : ℕ) → ((i : ℕ) → i < k → fewest i ≡ f i) → left G marks fewest k ≡ left G marks f k
  left_same f zero e = refl
  left_same f (suc k) e = λ j. cull (left_same f k (λ i l. e i (omega arith)) j) (marks k) (e k (omega arith) j)

  pub fewest_same : (f : ℕ → ℕ → Option ℕ) (k : ℕ) → ((i : ℕ) → i < k → fewest i ≡ f i) → FewestBelow G marks fewest k → FewestBelow G marks f k
  fewest_same f k e F i l =
      subst (λ (g : ℕ → Option ℕ). Fewest (left G marks f i) (marks i) g) (e i l)
      (subst (λ (B : Graph costs alphabet). Fewest B (marks i) (fewest i)) (left_same f i (λ j h. e j (omega arith))) (F i l))

  pub left_edge : (k u : ℕ) (p : Letter) (e : Edge Cost) → ((left G marks fewest k).edge u p ≡ some e) ↔ ((G.edge u p ≡ some e) × Below (λ i. keeps_edge (marks i) (fewest i) u e ≡ true) k)
  left_edge zero u p e = (λ h. (h, below_none (λ i. keeps_edge (marks i) (fewest i) u e ≡ true)), λ h. h.0)
  left_edge (suc k) u p e = keep_next k (λ i. keeps_edge (marks i) (fewest i) u) (G.edge u p) ((left G marks fewest k).edge u p) e (left_edge k u p e)

  pub left_ending : (k u : ℕ) (c : Cost) → ((left G marks fewest k).ending u ≡ some c) ↔ ((G.ending u ≡ some c) × Below (λ i. keeps_ending (marks i) (fewest i) u c ≡ true) k)
  left_ending zero u c = (λ h. (h, below_none (λ i. keeps_ending (marks i) (fewest i) u c ≡ true)), λ h. h.0)
  left_ending (suc k) u c = keep_next k (λ i. keeps_ending (marks i) (fewest i) u) (G.ending u) ((left G marks fewest k).ending u) c (left_ending k u c)

  -- an edge or an ending that one of the stages does not keep is not left
  pub edge_gone : (k u : ℕ) (p : Letter) (e : Edge Cost) → G.edge u p ≡ some e → (i : ℕ) → i < k → keeps_edge (marks i) (fewest i) u e ≡ false → (left G marks fewest k).edge u p ≡ none
  edge_gone k u p e h = gone k (λ i. keeps_edge (marks i) (fewest i) u) (G.edge u p) ((left G marks fewest k).edge u p) (λ x. (left_edge k u p x).0) e h

  pub ending_gone : (k u : ℕ) (c : Cost) → G.ending u ≡ some c → (i : ℕ) → i < k → keeps_ending (marks i) (fewest i) u c ≡ false → (left G marks fewest k).ending u ≡ none
  ending_gone k u c h = gone k (λ i. keeps_ending (marks i) (fewest i) u) (G.ending u) ((left G marks fewest k).ending u) (λ x. (left_ending k u x).0) c h

  pub no_edge_left : (k u : ℕ) (p : Letter) → G.edge u p ≡ none → (left G marks fewest k).edge u p ≡ none
  no_edge_left zero u p h = h
  no_edge_left (suc k) u p h = ap (keep (keeps_edge (marks k) (fewest k) u)) (no_edge_left k u p h)

  pub no_ending_left : (k u : ℕ) → G.ending u ≡ none → (left G marks fewest k).ending u ≡ none
  no_ending_left zero u h = h
  no_ending_left (suc k) u h = ap (keep (keeps_ending (marks k) (fewest k) u)) (no_ending_left k u h)

  -- two letters with one edge: what is left of them is one edge or nothing
  pub left_alike_edges : (k u : ℕ) (p q : Letter) → G.edge u p ≡ G.edge u q → (left G marks fewest k).edge u p ≡ (left G marks fewest k).edge u q
  left_alike_edges zero u p q h = h
  left_alike_edges (suc k) u p q h = ap (keep (keeps_edge (marks k) (fewest k) u)) (left_alike_edges k u p q h)

  pub left_sub : (k : ℕ) → Subgraph (left G marks fewest k) G
  left_sub k = record { edges = λ u p e h. ((left_edge k u p e).0 h).0; endings = λ u c h. ((left_ending k u c).0 h).0 }
