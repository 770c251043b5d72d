-- Labels position by position, from the last to the first: what holds when a position is entered, and when it is done.
use Rattle.std.specs.Prelude.{◌≡◌, refl, ◌⊎◌, ◌≢◌, ℕ, suc, ◌≤◌, ◌<◌}
use Rattle.std.proofs.Common.{sym, ◌∙◌, ap, inl, inr, arith}
use Rattle.std.proofs.Math.Option.{none, some, none-ne-some}
use Rattle.std.proofs.Math.Decide.{ℕ_discrete}
use Rattle.paths.specs.Total.{Upto}
use Rattle.paths.specs.Costs.{Costs, Labels, AtMost, atmost_upto, shift_right_upto}
use Rattle.paths.specs.Graph.{Alphabet, Edge, Graph, EdgeTo}
use Rattle.paths.specs.Costly.{Costly}
use Rattle.paths.specs.Labels.{ClosedAt, Attained, attained_none}
use Rattle.paths.specs.Improvement.{Improves, Falls, improves_upto, improves_falls, improve_edge_of, improve_end}
use Rattle.paths.specs.Settling.{Settling, AllSettled, settling_end}

-- an edge stays at its position or goes to the next one, n is the last position, and a path ends only there
pub record Positioned {costs : Costs} {alphabet : Alphabet} (G : Graph costs alphabet) (pos : ℕ → ℕ) (n : ℕ) : Type 0 where
  pub next : (u : ℕ) (p : alphabet.Letter) (e : Edge costs.Cost) → G.edge u p ≡ some e → (pos e.target ≡ pos u) ⊎ (pos e.target ≡ suc (pos u))
  pub ends : (u : ℕ) (c : costs.Cost) → G.ending u ≡ some c → pos u ≡ n

module _ {costs : Costs} {alphabet : Alphabet} (G : Graph costs alphabet) (pos : ℕ → ℕ) where
  infixl 65 ◌⊕◌
  open G use {edge, ending, positive}
  open costs use {Cost, ◌⊕◌, ◌≺◌, total}
  open alphabet use {Letter}

  -- ---- the invariants

  -- the positions from i on are done, and nothing below i is labelled
  pub record Done (L : Labels costs) (i : ℕ) : Type 0 where
    pub attained : Attained G L
    pub closed : (u : ℕ) → i ≤ pos u → ClosedAt G L u
    pub blank : (u : ℕ) → pos u < i → L u ≡ none

  -- while the position i is entered: K are the labels where that began, L those at hand, Ended the nodes whose endings were looked at, and Did
  -- the edges
  pub record Entering (K L : Labels costs) (i : ℕ) (Ended : ℕ → Type 0) (Did : ℕ → Letter → Type 0) : Type 0 where
    pub attained : Attained G L
    pub others : (w : ℕ) → pos w ≢ i → L w ≡ K w
    pub falls : Falls ◌≺◌ K L
    pub ends : (u : ℕ) (c : Cost) → pos u ≡ i → Ended u → ending u ≡ some c → AtMost ◌≺◌ (L u) c
    pub leaving : (u : ℕ) (p : Letter) (e : Edge Cost) (c : Cost) → pos u ≡ i → pos e.target ≢ i → Did u p → edge u p ≡ some e → L e.target ≡ some c → AtMost ◌≺◌ (L u) (e.cost ⊕ c)

  -- the position i was entered: neither an ending nor an edge that leaves it improves a label of it, and the positions past i are done
  pub record Entered (L : Labels costs) (i : ℕ) : Type 0 where
    pub attained : Attained G L
    pub closed : (u : ℕ) → i < pos u → ClosedAt G L u
    pub blank : (u : ℕ) → pos u < i → L u ≡ none
    pub ends : (u : ℕ) (c : Cost) → pos u ≡ i → ending u ≡ some c → AtMost ◌≺◌ (L u) c
    pub leaving : (u : ℕ) (p : Letter) (e : Edge Cost) (c : Cost) → pos u ≡ i → pos e.target ≢ i → edge u p ≡ some e → L e.target ≡ some c → AtMost ◌≺◌ (L u) (e.cost ⊕ c)

  -- of the edges that leave the position i, Did' has those of Did, and X more at most
  abbrev pub MoreLeaving : (i : ℕ) (Did Did' : ℕ → Letter → Type 0) (X : ℕ → Letter → Edge Cost → Type 0) → Type 0
  MoreLeaving i Did Did' X = (w : ℕ) (q : Letter) (f : Edge Cost) → pos w ≡ i → pos f.target ≢ i → Did' w q → edge w q ≡ some f → Did w q ⊎ X w q f

  -- ---- entering a position: its endings, and the edges that leave it

  pub entering_start : {K : Labels costs} {i : ℕ} → Done K (suc i) → Entering K K i (λ _. ⊥) (λ _ _. ⊥)
  entering_start d = record { attained = d.attained; others = λ w h. refl; falls = λ w c m. m; ends = λ u c a x h. absurd x; leaving = λ u p e c a b x h l. absurd x }

  module _ {K L : Labels costs} {i : ℕ} {Ended : ℕ → Type 0} {Did : ℕ → Letter → Type 0} (S : Entering K L i Ended Did) where
    -- nothing to do for what has no ending, leads to a node with no label, or does not leave the position
    pub entering_skip : (Ended' : ℕ → Type 0) (Did' : ℕ → Letter → Type 0)
        → ((u : ℕ) (c : Cost) → pos u ≡ i → Ended' u → ending u ≡ some c → Ended u)
        → ((u : ℕ) (p : Letter) (e : Edge Cost) (c : Cost) → pos u ≡ i → pos e.target ≢ i → Did' u p → edge u p ≡ some e → L e.target ≡ some c → Did u p)
        → Entering K L i Ended' Did'
    entering_skip Ended' Did' f g = record {
      attained = S.attained;
      others = S.others;
      falls = S.falls;
      ends = λ u c a x h. S.ends u c a (f u c a x h) h;
      leaving = λ u p e c a b x h l. S.leaving u p e c a b (g u p e c a b x h l) h l;
    }

    -- u is improved by its ending
    pub entering_end : {M : Labels costs} (Ended' : ℕ → Type 0) (u : ℕ) (c : Cost) → pos u ≡ i → ending u ≡ some c → Improves ◌≺◌ L u c M
        → ((w : ℕ) → Ended' w → Ended w ⊎ (w ≡ u)) → Entering K M i Ended' Did
    entering_end {M} Ended' u c a h I f = record {
      attained = improve_end G S.attained I h;
      others = λ w b. same w b ∙ S.others w b;
      falls = λ w d m. improves_falls total I w d (S.falls w d m);
      ends = λ w d b x k. ends w d b k (f w x);
      leaving = λ w q g d b t x k l. improves_falls total I w (g.cost ⊕ d) (S.leaving w q g d b t x k (sym (same g.target t) ∙ l));
    }
      where
        same : (w : ℕ) → pos w ≢ i → M w ≡ L w
        same w b = I.others w (λ q. b (ap pos q ∙ a))

        ends : (w : ℕ) (d : Cost) → pos w ≡ i → ending w ≡ some d → Ended w ⊎ (w ≡ u) → AtMost ◌≺◌ (M w) d
        ends w d b k (inl x) = improves_falls total I w d (S.ends w d b x k)
        ends w d b k (inr q) = let z : c ≡ d = cc (h, k, q) in rw (q, ← z) (improves_upto total I)

    -- where every edge costs something
    module _ (costly : Costly G) where
      pub entering_step_of : {M : Labels costs} (Did' : ℕ → Letter → Type 0) (u v : ℕ) (e d : Cost) → pos u ≡ i → EdgeTo G u v e → L v ≡ some d → Improves ◌≺◌ L u (e ⊕ d) M
          → MoreLeaving i Did Did' (λ w q f. (w ≡ u) × (f.target ≡ v) × Upto ◌≺◌ e f.cost) → Entering K M i Ended Did'
      entering_step_of {M} Did' u v e d a E l I more = record {
        attained = improve_edge_of G S.attained I costly E.letter E.to d E.edge_is (ap L E.target_is ∙ l) (ap (λ (x : Cost). x ⊕ d) (sym E.cost_is));
        others = λ w b. same w b ∙ S.others w b;
        falls = λ w c m. improves_falls total I w c (S.falls w c m);
        ends = λ w c b x k. improves_falls total I w c (S.ends w c b x k);
        leaving = λ w q f c b t x k m. leaving w q f c b t k m (more w q f b t x k);
      }
        where
          same : (w : ℕ) → pos w ≢ i → M w ≡ L w
          same w b = I.others w (λ q. b (ap pos q ∙ a))

          leaving : (w : ℕ) (q : Letter) (f : Edge Cost) (c : Cost) → pos w ≡ i → pos f.target ≢ i → edge w q ≡ some f → M f.target ≡ some c
              → Did w q ⊎ ((w ≡ u) × (f.target ≡ v) × Upto ◌≺◌ e f.cost) → AtMost ◌≺◌ (M w) (f.cost ⊕ c)
          leaving w q f c b t k m (inl x) = improves_falls total I w (f.cost ⊕ c) (S.leaving w q f c b t x k (sym (same f.target t) ∙ m))
          leaving w q f c b t k m (inr x) =
              let z : d ≡ c = cc (l, m, same f.target t, ap L x.1) in
              rw (x.0, ← z) (atmost_upto total (improves_upto total I) (shift_right_upto costs d x.2))

      pub entering_letter_of : {M : Labels costs} (Did' : ℕ → Letter → Type 0) (u : ℕ) (p : Letter) (e : Edge Cost) (d : Cost) → pos u ≡ i → edge u p ≡ some e → L e.target ≡ some d → Improves ◌≺◌ L u (e.cost ⊕ d) M
          → MoreLeaving i Did Did' (λ w q f. (w ≡ u) × (q ≡ p)) → Entering K M i Ended Did'
      entering_letter_of Did' u p e d a h l I more =
          entering_step_of Did' u e.target e.cost d a (record { letter = p; to = e; edge_is = h; target_is = refl; cost_is = refl }) l I (λ w q f b t x k. go w q f k (more w q f b t x k))
        where
          go : (w : ℕ) (q : Letter) (f : Edge Cost) → edge w q ≡ some f → Did w q ⊎ ((w ≡ u) × (q ≡ p)) → Did w q ⊎ ((w ≡ u) × (f.target ≡ e.target) × Upto ◌≺◌ e.cost f.cost)
          go w q f k (inl x) = inl x
          go w q f k (inr x) =
              let z : e ≡ f = cc (h, k, x.0, x.1) in
              inr (x.0, ap (λ (y : Edge Cost). y.target) (sym z), inr (ap (λ (y : Edge Cost). y.cost) z))

    -- u is improved by an edge to v that costs e, with v's label d: this serves for every edge from u to v that costs no less
    pub entering_step : {M : Labels costs} (Did' : ℕ → Letter → Type 0) (u v : ℕ) (e d : Cost) → pos u ≡ i → EdgeTo G u v e → L v ≡ some d → Improves ◌≺◌ L u (e ⊕ d) M
        → MoreLeaving i Did Did' (λ w q f. (w ≡ u) × (f.target ≡ v) × Upto ◌≺◌ e f.cost) → Entering K M i Ended Did'
    entering_step Did' u v e d a E l I more = entering_step_of positive Did' u v e d a E l I more

    -- by one letter
    pub entering_letter : {M : Labels costs} (Did' : ℕ → Letter → Type 0) (u : ℕ) (p : Letter) (e : Edge Cost) (d : Cost) → pos u ≡ i → edge u p ≡ some e → L e.target ≡ some d → Improves ◌≺◌ L u (e.cost ⊕ d) M
        → MoreLeaving i Did Did' (λ w q f. (w ≡ u) × (q ≡ p)) → Entering K M i Ended Did'
    entering_letter Did' u p e d a h l I more = entering_letter_of positive Did' u p e d a h l I more

    -- u has no edge for the letter
    pub entering_no_edge : (Did' : ℕ → Letter → Type 0) (u : ℕ) (p : Letter) → edge u p ≡ none → MoreLeaving i Did Did' (λ w q f. (w ≡ u) × (q ≡ p)) → Entering K L i Ended Did'
    entering_no_edge Did' u p n more = entering_skip Ended Did' (λ w c a x h. x) (λ w q f c b t x k l. go w q f k (more w q f b t x k))
      where
        go : (w : ℕ) (q : Letter) (f : Edge Cost) → edge w q ≡ some f → Did w q ⊎ ((w ≡ u) × (q ≡ p)) → Did w q
        go w q f k (inl x) = x
        go w q f k (inr x) = let z : edge u p ≡ some f = rw (← x.0, ← x.1) k in absurd (none-ne-some f (sym n ∙ z))

    -- v has no label
    pub entering_unlabelled : (Did' : ℕ → Letter → Type 0) (v : ℕ) → L v ≡ none → MoreLeaving i Did Did' (λ w q f. f.target ≡ v) → Entering K L i Ended Did'
    entering_unlabelled Did' v n more = entering_skip Ended Did' (λ w c a x h. x) (λ w q f c b t x h l. go w q f c l (more w q f b t x h))
      where
        go : (w : ℕ) (q : Letter) (f : Edge Cost) (c : Cost) → L f.target ≡ some c → Did w q ⊎ (f.target ≡ v) → Did w q
        go w q f c l (inl x) = x
        go w q f c l (inr x) = absurd (none-ne-some c (sym n ∙ ap L (sym x) ∙ l))

  module _ {n : ℕ} (Y : Positioned G pos n) where
    -- closed at a node past i, with labels that are the same past i
    closed_same : {K L : Labels costs} {i u : ℕ} → i < pos u → ((w : ℕ) → pos w ≢ i → L w ≡ K w) → ClosedAt G K u → ClosedAt G L u
    closed_same {i = i} {u = u} h o k = record {
      ends = λ c e. rw (o u (omega arith)) (k.ends c e);
      edges = λ p e c z l. rw (o u (omega arith)) (k.edges p e c z (sym (o e.target (past p e z (Y.next u p e z))) ∙ l));
    }
      where
        past : (p : Letter) (e : Edge Cost) → edge u p ≡ some e → (pos e.target ≡ pos u) ⊎ (pos e.target ≡ suc (pos u)) → pos e.target ≢ i
        past p e z (inl q) = omega arith
        past p e z (inr q) = omega arith

    -- ---- before the last position: no node has a label
    pub done_start : (L : Labels costs) → ((u : ℕ) → L u ≡ none) → Done L (suc n)
    done_start L h = record { attained = attained_none G L h; closed = closed; blank = λ u _. h u }
      where
        closed : (u : ℕ) → suc n ≤ pos u → ClosedAt G L u
        closed u k = record {
          ends = λ c e. absurd (omega (arith, Y.ends u c e));
          edges = λ p e c z l. absurd (none-ne-some c (sym (h e.target) ∙ l));
        }

    -- every ending and every edge that leaves was looked at: the position was entered
    pub entering_done : {K L : Labels costs} {i : ℕ} {Ended : ℕ → Type 0} {Did : ℕ → Letter → Type 0} → Done K (suc i) → Entering K L i Ended Did
        → ((u : ℕ) (c : Cost) → pos u ≡ i → ending u ≡ some c → Ended u)
        → ((u : ℕ) (p : Letter) (e : Edge Cost) → pos u ≡ i → pos e.target ≢ i → edge u p ≡ some e → Did u p)
        → Entered L i
    entering_done d S f g = record {
      attained = S.attained;
      closed = λ u h. closed_same h S.others (d.closed u (omega arith));
      blank = λ u h. S.others u (omega arith) ∙ d.blank u (omega arith);
      ends = λ u c a e. S.ends u c a (f u c a e) e;
      leaving = λ u p e c a b h l. S.leaving u p e c a b (g u p e a b h) h l;
    }

    -- ---- every labelled node of the position is settled: the position is done
    pub position_done : {K L : Labels costs} {D : ℕ → Type 0} {i : ℕ} → ((u : ℕ) → Dec (D u)) → Entered K i → Settling G pos i K L D → AllSettled G pos i L D → Done L i
    position_done {K} {L} {D} {i} dec E S all = record { attained = S.attained; closed = λ u h. closed u h (ℕ_discrete (pos u) i); blank = λ u h. S.others u (omega arith) ∙ E.blank u h }
      where
        edges : (u : ℕ) (p : Letter) (e : Edge Cost) (c : Cost) → pos u ≡ i → edge u p ≡ some e → L e.target ≡ some c → Dec (pos e.target ≡ i) → AtMost ◌≺◌ (L u) (e.cost ⊕ c)
        edges u p e c a h l (yes b) = settling_end G pos i dec S all u p e c a b h l
        edges u p e c a h l (no b) = S.falls u (e.cost ⊕ c) (E.leaving u p e c a b h (sym (S.others e.target b) ∙ l))

        closed : (u : ℕ) → i ≤ pos u → Dec (pos u ≡ i) → ClosedAt G L u
        closed u h (yes a) = record { ends = λ c e. S.falls u c (E.ends u c a e); edges = λ p e c k l. edges u p e c a k l (ℕ_discrete (pos e.target) i) }
        closed u h (no a) = closed_same (omega arith) S.others (E.closed u (omega arith))
