-- The walk: with closed and attained labels, taking the least letter that keeps to the labels, again and again, gives the best path.
use Rattle.std.specs.Prelude.{◌≡◌, refl, ◌⊎◌, ◌≢◌, List, [], ◌∷◌, ◌++◌, ℕ, zero, suc, ◌+◌, length}
use Rattle.std.proofs.Common.{sym, ◌∙◌, ap, inl, inr, append_assoc, append-nil, arith, length-append}
use Rattle.std.proofs.Math.Option.{none, some}
use Rattle.paths.specs.Total.{Lex, Upto, upto_not_less}
use Rattle.paths.specs.Costs.{Costs, Labels, AtMost, atmost_some}
use Rattle.paths.specs.Graph.{Alphabet, Edge, Graph, path_cost, Run, run→cost, cost→run}
use Rattle.paths.specs.Labels.{Closed, Attained, Held, held→run, run_lower_bound}
use Rattle.paths.specs.Bounds.{Sized}
use Rattle.paths.specs.Best.{Before, IsBest}

module _ {costs : Costs} {alphabet : Alphabet} (G : Graph costs alphabet) (L : Labels costs) where
  infixl 65 ◌⊕◌
  infix 4 ◌≺◌ ◌◃◌
  open G use {edge, ending}
  open costs use {Cost, ◌⊕◌, ◌≺◌, total, shift_left}
  open alphabet use {Letter, ◌◃◌, total as letters-total}

  -- the edge for p keeps to the labels: u's label is its cost and its target's label
  pub record Tight (u : ℕ) (p : Letter) : Type 0 where
    pub to : Edge Cost
    pub rest : Cost
    pub edge_is : edge u p ≡ some to
    pub rest_is : L to.target ≡ some rest
    pub label_is : L u ≡ some (to.cost ⊕ rest)

  -- and no lesser letter's does
  pub record LeastTight (u : ℕ) (p : Letter) : Type 0 where
    pub tight : Tight u p
    pub least : (q : Letter) → q ◃ p → ¬ (Tight u q)

  -- a number that tells how many letters are left, along edges that keep to the labels
  pub record SizedLabels (size : Cost → ℕ) : Type 0 where
    pub at_end : (u : ℕ) (c : Cost) → ending u ≡ some c → L u ≡ some c → size c ≡ 0
    pub at_edge : (u : ℕ) (p : Letter) (t : Tight u p) → size (t.to.cost ⊕ t.rest) ≡ suc (size t.rest)

  pub sized_labels : {size : Cost → ℕ} → Sized G size → SizedLabels size
  sized_labels Z = record { at_end = λ u c h l. Z.at_end u c h; at_edge = λ u p t. Z.at_edge u p t.to t.edge_is t.rest }

  -- n steps from u, each by the least letter that keeps to the labels
  pub data Walk : ℕ → ℕ → List Letter → Type 0 where
    done : {u : ℕ} → Walk zero u []
    next : {n u : ℕ} {p : Letter} {ps : List Letter} (t : LeastTight u p) → Walk n t.tight.to.target ps → Walk (suc n) u (p ∷ ps)

  -- the invariant of a loop that writes the walk from u, whose label is c: ps is written, and w is the node reached, with the label d
  pub record Walking (size : Cost → ℕ) (u : ℕ) (c : Cost) (ps : List Letter) (w : ℕ) (d : Cost) : Type 0 where
    pub label : L w ≡ some d
    pub written : length ps + size d ≡ size c
    pub goes_on : (qs : List Letter) → Walk (size d) w qs → Walk (size c) u (ps ++ qs)

  pub walking_start : (size : Cost → ℕ) (u : ℕ) (c : Cost) → L u ≡ some c → Walking size u c [] u c
  walking_start size u c l = record { label = l; written = omega arith; goes_on = λ qs w. w }

  -- it ends where the label has no letter left
  pub walking_end : {size : Cost → ℕ} {u : ℕ} {c : Cost} {ps : List Letter} {w : ℕ} {d : Cost} → Walking size u c ps w d → size d ≡ 0 → Walk (size c) u ps
  walking_end W z = rw append-nil at (W.goes_on [] (rw z done))

  -- ---- whether an edge keeps to the labels, as a loop finds out

  pub make_tight : {u : ℕ} {p : Letter} {e : Edge Cost} {c d : Cost} → edge u p ≡ some e → L e.target ≡ some d → L u ≡ some c → c ≡ e.cost ⊕ d → Tight u p
  make_tight {e = e} {d = d} h k l q = record { to = e; rest = d; edge_is = h; rest_is = k; label_is = cc }

  pub tight_sum : {u : ℕ} {p : Letter} {e : Edge Cost} {c d : Cost} → edge u p ≡ some e → L e.target ≡ some d → L u ≡ some c → Tight u p → c ≡ e.cost ⊕ d
  tight_sum h k l t = cc

  pub no_edge_not_tight : {u : ℕ} {p : Letter} → edge u p ≡ none → ¬ (Tight u p)
  no_edge_not_tight h t = let z : ◌≡◌ {A = ℕ} 0 1 = cc in omega arith

  -- along a path that costs what its node's label says, every edge keeps to the labels
  tight_rest : Closed G L → {u : ℕ} {p : Letter} {ps : List Letter} {c : Cost} (e : Edge Cost) (d : Cost) → L u ≡ some c → edge u p ≡ some e → Run G e.target ps d → c ≡ e.cost ⊕ d → L e.target ≡ some d
  tight_rest K {u} {p} {c = c} e d l h r q = go m.upto
    where
      m : AtMost ◌≺◌ (L e.target) d
      m = run_lower_bound G K r

      go : Upto ◌≺◌ m.val d → L e.target ≡ some d
      go (inr z) = cc m.is
      go (inl z) = absurd (upto_not_less total (atmost_some l ((K u).edges p e m.val h m.is)) (rw q (shift_left e.cost m.val d z)))

  -- a node's label is what its ending costs, or some edge keeps to the labels
  pub ends_or_tight : Closed G L → Attained G L → (u : ℕ) (c : Cost) → L u ≡ some c → (ending u ≡ some c) ⊎ ((p : Letter) × Tight u p)
  ends_or_tight K A u c l = go (A u c l).held
    where
      go : {ps : List Letter} → Held G L u ps c → (ending u ≡ some c) ⊎ ((p : Letter) × Tight u p)
      go (Held.halt h m) = inl h
      go (Held.step {p = p} e d h r q m) = inr (p, make_tight h (tight_rest K e d l h (held→run G r) q) l q)

  module _ {size : Cost → ℕ} (Z : SizedLabels size) where
    -- what is left after an edge that keeps to the labels is one letter shorter
    pub tight_size : {u : ℕ} {p : Letter} {c : Cost} (t : Tight u p) → L u ≡ some c → size c ≡ suc (size t.rest)
    tight_size {u} {p} {c} t l =
        let q : c ≡ t.to.cost ⊕ t.rest = cc t.label_is in
        ap size q ∙ Z.at_edge u p t

    -- a node whose label is of some size has an edge that keeps to the labels
    pub some_tight : Closed G L → Attained G L → (u : ℕ) (c : Cost) → L u ≡ some c → size c ≢ 0 → (p : Letter) × Tight u p
    some_tight K A u c l n = go (ends_or_tight K A u c l)
      where
        go : (ending u ≡ some c) ⊎ ((p : Letter) × Tight u p) → (p : Letter) × Tight u p
        go (inl h) = absurd (n (Z.at_end u c h l))
        go (inr t) = t

    -- a path that costs what its node's label says has as many letters as the label's size
    label_size : Closed G L → {u : ℕ} {ps : List Letter} {c : Cost} → L u ≡ some c → Run G u ps c → size c ≡ length ps
    label_size K l (Run.halt {u} {c} h) = Z.at_end u c h l
    label_size K {c = c} l (Run.step {u} {p} e d h r q) =
        let m = tight_rest K e d l h r q in
        let k : L u ≡ some (e.cost ⊕ d) = cc in
        let t : Tight u p = record { to = e; rest = d; edge_is = h; rest_is = m; label_is = k } in
        ap size q ∙ Z.at_edge u p t ∙ ap suc (label_size K m r)

    -- a walk of as many steps as the label's size costs what the label says
    walk_run : Closed G L → Attained G L → {n u : ℕ} {ps : List Letter} → Walk n u ps → (c : Cost) → L u ≡ some c → size c ≡ n → Run G u ps c
    walk_run K A (done {u}) c l z = go (label_size K l r) r
      where
        r : Run G u (A u c l).letters c
        r = held→run G (A u c l).held

        go : {ps : List Letter} → size c ≡ length ps → Run G u ps c → Run G u [] c
        go q (Run.halt h) = Run.halt h
        go q (Run.step e d h r k) = absurd (omega arith)
    walk_run K A (next {n} {u} {p} s w) c l z =
        let t = s.tight in
        let q : c ≡ t.to.cost ⊕ t.rest = cc t.label_is in
        Run.step t.to t.rest t.edge_is (walk_run K A w t.rest t.rest_is (omega (arith, tight_size t l))) q

    -- and no other path of that cost comes before it
    walk_least : Closed G L → {n u : ℕ} {ps : List Letter} → Walk n u ps → (c : Cost) → L u ≡ some c → {qs : List Letter} → Run G u qs c → length qs ≡ n → (ps ≡ qs) ⊎ Lex ◌◃◌ ps qs
    walk_least K done c l (Run.halt h) z = inl refl
    walk_least K done c l (Run.step e d h r q) z = absurd (omega arith)
    walk_least K (next s w) c l (Run.halt h) z = absurd (omega arith)
    walk_least K (next {n} {u} {p} {ps} s w) c l (Run.step {p = q} {ps = qs} e d h r k) z =
        go (λ l' r'. walk_least K w d l' r' (omega arith)) (letters-total.compare p q)
      where
        t : Tight u p
        t = s.tight

        m : L e.target ≡ some d
        m = tight_rest K e d l h r k

        tail : (ps ≡ qs) ⊎ Lex ◌◃◌ ps qs → p ≡ q → (p ∷ ps ≡ q ∷ qs) ⊎ Lex ◌◃◌ (p ∷ ps) (q ∷ qs)
        tail (inl a) b = let j : p ∷ ps ≡ q ∷ qs = cc in inl j
        tail (inr a) b = inr (inr (b, a))

        go : (L t.to.target ≡ some d → Run G t.to.target qs d → (ps ≡ qs) ⊎ Lex ◌◃◌ ps qs) → (p ◃ q) ⊎ ((p ≡ q) ⊎ (q ◃ p)) → (p ∷ ps ≡ q ∷ qs) ⊎ Lex ◌◃◌ (p ∷ ps) (q ∷ qs)
        go rec (inl a) = inr (inl a)
        go rec (inr (inl a)) = let same : t.to ≡ e = cc (t.edge_is, a, h) in tail (rec (rw same m) (rw same r)) a
        go rec (inr (inr a)) = absurd (s.least q a (make_tight h m l k))

    -- ---- Theorem 5: with closed and attained labels the walk is the best path

    pub walk_best : Closed G L → Attained G L → (u : ℕ) (c : Cost) (ps : List Letter) → L u ≡ some c → Walk (size c) u ps → IsBest G u ps
    walk_best K A u c ps l w = record { cost = c; is = run→cost G (walk_run K A w c l refl); first = first }
      where
        first : (qs : List Letter) (d : Cost) → qs ≢ ps → path_cost G u qs ≡ some d → Before costs alphabet (c, ps) (d, qs)
        first qs d n h = go (atmost_some l (run_lower_bound G K k))
          where
            k : Run G u qs d
            k = cost→run G u qs d h

            later : (ps ≡ qs) ⊎ Lex ◌◃◌ ps qs → c ≡ d → Before costs alphabet (c, ps) (d, qs)
            later (inl e) q = absurd (n (sym e))
            later (inr x) q = inr (q, x)

            go : Upto ◌≺◌ c d → Before costs alphabet (c, ps) (d, qs)
            go (inl q) = inl q
            go (inr q) = let r : Run G u qs c = rw q k in later (walk_least K w c l r (sym (label_size K l r))) q

    -- it costs what the label says
    pub walk_cost : Closed G L → Attained G L → (u : ℕ) (c : Cost) (ps : List Letter) → L u ≡ some c → Walk (size c) u ps → path_cost G u ps ≡ some c
    walk_cost K A u c ps l w = run→cost G (walk_run K A w c l refl)

    -- ---- a loop that writes the walk

    pub walking_next : (u : ℕ) (c : Cost) (ps : List Letter) (w : ℕ) (d : Cost) (p : Letter) → Walking size u c ps w d → (t : LeastTight w p) → Walking size u c (ps ++ p ∷ []) t.tight.to.target t.tight.rest
    walking_next u c ps w d p W t = record {
      label = t.tight.rest_is;
      written = rw length-append (omega (arith, W.written, tight_size t.tight W.label));
      goes_on = λ qs k. rw append_assoc (W.goes_on (p ∷ qs) (rw (tight_size t.tight W.label) (next t k)));
    }
