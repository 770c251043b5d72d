-- Trying all codes of a position by four outputs, while the position is entered.
use Rattle.std.specs.Prelude.{◌≡◌, ◌⊎◌, ◌≢◌, ◌+◌, ◌%◌, ◌<◌, ◌≤◌}
use Rattle.basics.specs.Words.{refl, sym, ◌∙◌, ap, cond, List, Option, some, none, inl, inr, ℕ, zero, suc, arith, eqb, ltb, dec_lt, ℕ_discrete}
use Rattle.std.proofs.Common.{eq-eqb, ne_eqb, lt-ltb, le-ltb}
use Rattle.machine.specs.declared.Pair.{Pair}
use Rattle.paths.specs.Costs.{Labels}
use Rattle.paths.specs.Ranked.{ranked_costs}
use Rattle.paths.specs.Graph.{Graph}
use Rattle.paths.specs.Positions.{Entering, MoreLeaving, entering_skip}
use Rattle.product.specs.ProductGraph.{Move, pairs}
use Rattle.product.specs.Laws.Codes.{priced_step}
use Rattle.cells.specs.declared.Cell.{Cell}
use Rattle.cells.specs.Cells.{nowhere, high_of}
use Rattle.cells.specs.Columns.{JointCell}
use Rattle.cells.specs.Trying.{label_from, OwnCell, next_cell, cell_price}
use Rattle.cells.specs.Laws.Position.{placed, placed_in, placed_after, placed_other, placed_same}
use Rattle.lanes.specs.Trying.{lesser, least_of, way_by}
use Rattle.lanes.specs.Laws.Trying.{no_step_keeps, no_label_keeps, step_own}
use Rattle.lanes.specs.Laws.Entering.{lane_entered}

-- one cell anew
abbrev pub anew : (ℕ → Cell) → ℕ → Cell → ℕ → Cell
anew f c x d = cond (eqb d c) x (f d)

pub anew_here : (f : ℕ → Cell) (c : ℕ) (x : Cell) → anew f c x c ≡ x
anew_here f c x = rw (eq-eqb c c refl)

pub anew_other : (f : ℕ → Cell) (c : ℕ) (x : Cell) (d : ℕ) → d ≢ c → anew f c x d ≡ f d
anew_other f c x d n = rw (ne_eqb d c n)

-- the cells below m are lowered by four ways
unfoldable pub done : (ways : ℕ → ℕ → Cell) → (ℕ → Cell) → ℕ → ℕ → Cell
done ways f m c = cond (ltb c m) (least_of (ways c) 4 (f c)) (f c)

pub done_below : (ways : ℕ → ℕ → Cell) (f : ℕ → Cell) (m c : ℕ) → c < m → done ways f m c ≡ least_of (ways c) 4 (f c)
unfolding done
done_below ways f m c h = rw (lt-ltb c m h)

pub done_later : (ways : ℕ → ℕ → Cell) (f : ℕ → Cell) (m c : ℕ) → m ≤ c → done ways f m c ≡ f c
unfolding done
done_later ways f m c h = rw (le-ltb c m h)

-- one more
pub done_next : (ways : ℕ → ℕ → Cell) (f : ℕ → Cell) (m d : ℕ) → done ways f (suc m) d ≡ anew (done ways f m) m (least_of (ways m) 4 (done ways f m m)) d
done_next ways f m d = same (dec_lt d m) (ℕ_discrete d m)
  where
    same : Dec (d < m) → Dec (d ≡ m) → done ways f (suc m) d ≡ anew (done ways f m) m (least_of (ways m) 4 (done ways f m m)) d
    same (yes a) (yes q) = absurd (omega arith)
    same (yes a) (no q) = done_below ways f (suc m) d (omega arith) ∙ sym (done_below ways f m d a) ∙ sym (anew_other (done ways f m) m (least_of (ways m) 4 (done ways f m m)) d q)
    same (no a) (yes q) =
        rw q
        (done_below ways f (suc m) m (omega arith) ∙ ap (least_of (ways m) 4) (sym (done_later ways f m m (omega arith))) ∙ sym (anew_here (done ways f m) m (least_of (ways m) 4 (done ways f m m))))
    same (no a) (no q) = done_later ways f (suc m) d (omega arith) ∙ sym (done_later ways f m d (omega arith)) ∙ sym (anew_other (done ways f m) m (least_of (ways m) 4 (done ways f m m)) d q)

-- the pair of a lane was tried at a code below m, or at m and the lane is below n
pub record TriedPair (base : ℕ) (pair : ℕ → Pair) (m n w : ℕ) (q : Pair) : Type 0 where
  pub code : ℕ
  pub lane : ℕ
  pub node : w ≡ base + code
  pub letter : q ≡ pair lane
  pub lane_few : lane < 4
  pub which : (code < m) ⊎ ((code ≡ m) × (lane < n))

-- besides what was tried before
abbrev pub DidTo : (base : ℕ) (pair : ℕ → Pair) (Did : ℕ → Pair → Type 0) (m n w : ℕ) → Pair → Type 0
DidTo base pair Did m n w q = Did w q ⊎ TriedPair base pair m n w q

-- all joint steps of a position with four outputs, the labels of the next position, and the edges
pub record Lanes (ws next : List ℕ) (P base next-base : ℕ) (pair : ℕ → Pair) (o : ℕ → ℕ → Option Move) (h l : ℕ → ℕ → ℕ) (G : Graph (ranked_costs 1) pairs) : Type 0 where
  pub whole : (m : ℕ) → high_of ws m % 256 ≡ 0
  pub few : P ≤ 128
  pub steps : (c j : ℕ) → c < P → j < 4 → JointCell ws P (o c j) (h c j) (l c j)
  pub edges : (c j : ℕ) → c < P → j < 4 → G.edge (base + c) (pair j) ≡ priced_step (cell_price ws) next-base (o c j)
  pub nexts : (t : ℕ) → t < P → OwnCell (next_cell next t)
  pub fits : (c j : ℕ) → c < P → j < 4 → (v : Move) → o c j ≡ some v → (next_cell next v.target).high < nowhere → (way_by next (h c j) (l c j)).high < nowhere

module _ {ws next : List ℕ} {P base next-base : ℕ} {pair : ℕ → Pair} {o : ℕ → ℕ → Option Move} {h l : ℕ → ℕ → ℕ} {G : Graph (ranked_costs 1) pairs} (A : Lanes ws next P base next-base pair o h l G)
    (L : Labels (ranked_costs 1)) (apart : base + P ≤ next-base) (next_is : (t : ℕ) → t < P → L (next-base + t) ≡ label_from (next_cell next t)) (pos : ℕ → ℕ) (i : ℕ) (at : (c : ℕ) → c < P → pos (base + c) ≡ i) where
  -- a label stays one
  own_next : (c j : ℕ) → c < P → j < 4 → (x : Cell) → OwnCell x → OwnCell (lesser (way_by next (h c j) (l c j)) x)
  own_next c j a b x X = go (o c j) refl
    where
      J : JointCell ws P (o c j) (h c j) (l c j)
      J = A.steps c j a b

      labelled : (v : Move) → o c j ≡ some v → Dec ((next_cell next v.target).high < nowhere) → OwnCell (lesser (way_by next (h c j) (l c j)) x)
      labelled v e (yes k) = step_own A.whole J A.few next A.nexts v e (A.fits c j a b v e k) x X
      labelled v e (no k) =
          let t : h c j % 256 ≡ v.target = J.target v e in
          let n : nowhere ≤ (next_cell next (h c j % 256)).high = rw t (omega arith) in
          rw (no_label_keeps A.whole J A.few next A.nexts n x X) X

      go : (k : Option Move) → o c j ≡ k → OwnCell (lesser (way_by next (h c j) (l c j)) x)
      go none e = rw (no_step_keeps A.whole J A.few next A.nexts e x X) X
      go (some v) e = labelled v e (dec_lt (next_cell next v.target).high nowhere)

  pub own_least : (c n : ℕ) → c < P → n ≤ 4 → (x : Cell) → OwnCell x → OwnCell (least_of (λ j. way_by next (h c j) (l c j)) n x)
  unfolding least_of
  own_least c zero a b x X = X
  own_least c (suc n) a b x X = own_next c n a b (least_of (λ j. way_by next (h c j) (l c j)) n x) (own_least c n a (omega arith) x X)

  module _ {K : Labels (ranked_costs 1)} {Ended : ℕ → Type 0} (Did : ℕ → Pair → Type 0) where
    -- the lanes of the code c
    lanes_entered : (f : ℕ → Cell) (c n : ℕ) → c < P → n ≤ 4 → OwnCell (f c) → Entering G pos K (placed base P L f) i Ended (DidTo base pair Did c 0)
        → Entering G pos K (placed base P L (anew f c (least_of (λ j. way_by next (h c j) (l c j)) n (f c)))) i Ended (DidTo base pair Did c n)
    unfolding least_of
    lanes_entered f c zero a b X S = rw (placed_same base P L f (anew f c (f c)) (λ d k. go d (ℕ_discrete d c))) at S
      where
        go : (d : ℕ) → Dec (d ≡ c) → anew f c (f c) d ≡ f d
        go d (yes q) = rw q (anew_here f c (f c))
        go d (no q) = anew_other f c (f c) d q
    lanes_entered f c (suc n) a b X S =
        lane_entered A.whole (A.steps c n a b) A.few next A.nexts x (own_least c n a (omega arith) (f c) X) G pos (base + c) next-base i (pair n) (A.edges c n a b)
        (placed_in base P L (anew f c x) c a ∙ ap label_from (anew_here f c x))
        (λ t k. placed_after base P L (anew f c x) (next-base + t) (omega arith) ∙ next_is t k)
        (placed_in base P L (anew f c y) c a ∙ ap label_from (anew_here f c y))
        (placed_other base P L (anew f c x) (anew f c y) c (λ d k q. anew_other f c y d q ∙ sym (anew_other f c x d q)))
        (A.fits c n a b) (DidTo base pair Did c (suc n)) (at c a) more (lanes_entered f c n a (omega arith) X S)
      where
        x : Cell
        x = least_of (λ j. way_by next (h c j) (l c j)) n (f c)

        y : Cell
        y = lesser (way_by next (h c n) (l c n)) (least_of (λ j. way_by next (h c j) (l c j)) n (f c))

        more : MoreLeaving G pos i (DidTo base pair Did c n) (DidTo base pair Did c (suc n)) (λ w q e. (w ≡ base + c) × (q ≡ pair n))
        more w q e _ _ (inl d) _ = inl (inl d)
        more w q e _ _ (inr t) _ = which t.which
          where
            at_lane : t.code ≡ c → t.lane < suc n → Dec (t.lane ≡ n) → DidTo base pair Did c n w q ⊎ ((w ≡ base + c) × (q ≡ pair n))
            at_lane k m (yes z) = inr (t.node ∙ ap (λ (u : ℕ). base + u) k, t.letter ∙ ap pair z)
            at_lane k m (no z) = inl (inr (record { code = t.code; lane = t.lane; node = t.node; letter = t.letter; lane_few = t.lane_few; which = inr (k, omega arith) }))

            which : (t.code < c) ⊎ ((t.code ≡ c) × (t.lane < suc n)) → DidTo base pair Did c n w q ⊎ ((w ≡ base + c) × (q ≡ pair n))
            which (inl k) = inl (inr (record { code = t.code; lane = t.lane; node = t.node; letter = t.letter; lane_few = t.lane_few; which = inl k }))
            which (inr k) = at_lane k.0 k.1 (ℕ_discrete t.lane n)

    -- no code yet
    codes_begun : (f : ℕ → Cell) → Entering G pos K (placed base P L f) i Ended Did → Entering G pos K (placed base P L (done (λ c j. way_by next (h c j) (l c j)) f 0)) i Ended (DidTo base pair Did 0 0)
    codes_begun f S =
        rw (placed_same base P L f (done (λ c j. way_by next (h c j) (l c j)) f 0) (λ d k. done_later (λ c j. way_by next (h c j) (l c j)) f 0 d (omega arith))) at (entering_skip G pos S Ended (DidTo base pair Did 0 0) (λ u c a t e. t) (λ w q e c a t d k v. none_yet w q d))
      where
        none_yet : (w : ℕ) (q : Pair) → DidTo base pair Did 0 0 w q → Did w q
        none_yet w q (inl d) = d
        none_yet w q (inr t) = absurd (never t.which)
          where
            never : (t.code < 0) ⊎ ((t.code ≡ 0) × (t.lane < 0)) → ⊥
            never (inl k) = omega arith
            never (inr k) = omega (arith, k.1)

    -- one code more
    code_entered : (f : ℕ → Cell) (m : ℕ) → m < P → OwnCell (f m) → Entering G pos K (placed base P L (done (λ c j. way_by next (h c j) (l c j)) f m)) i Ended (DidTo base pair Did m 0)
        → Entering G pos K (placed base P L (done (λ c j. way_by next (h c j) (l c j)) f (suc m))) i Ended (DidTo base pair Did (suc m) 0)
    code_entered f m b X S =
        let T = lanes_entered (done (λ c j. way_by next (h c j) (l c j)) f m) m 4 b (omega arith) (rw (done_later (λ c j. way_by next (h c j) (l c j)) f m m (omega arith)) X) S in
        let U = entering_skip G pos T Ended (DidTo base pair Did (suc m) 0) (λ u c a t e. t) (λ w q e c a t d k v. all_lanes w q d) in
        rw (placed_same base P L (anew (done (λ c j. way_by next (h c j) (l c j)) f m) m (least_of (λ j. way_by next (h m j) (l m j)) 4 (done (λ c j. way_by next (h c j) (l c j)) f m m))) (done (λ c j. way_by next (h c j) (l c j)) f (suc m)) (λ d k. done_next (λ c j. way_by next (h c j) (l c j)) f m d)) at U
      where
        all_lanes : (w : ℕ) (q : Pair) → DidTo base pair Did (suc m) 0 w q → DidTo base pair Did m 4 w q
        all_lanes w q (inl d) = inl d
        all_lanes w q (inr t) = inr (record { code = t.code; lane = t.lane; node = t.node; letter = t.letter; lane_few = t.lane_few; which = which t.which (ℕ_discrete t.code m) })
          where
            which : (t.code < suc m) ⊎ ((t.code ≡ suc m) × (t.lane < 0)) → Dec (t.code ≡ m) → (t.code < m) ⊎ ((t.code ≡ m) × (t.lane < 4))
            which (inl k) (yes z) = inr (z, t.lane_few)
            which (inl k) (no z) = inl (omega arith)
            which (inr k) z = absurd (omega (arith, k.1))

    codes_entered : (f : ℕ → Cell) (m : ℕ) → m ≤ P → ((c : ℕ) → c < P → OwnCell (f c)) → Entering G pos K (placed base P L f) i Ended Did → Entering G pos K (placed base P L (done (λ c j. way_by next (h c j) (l c j)) f m)) i Ended (DidTo base pair Did m 0)
    codes_entered f zero b X S = codes_begun f S
    codes_entered f (suc m) b X S = code_entered f m b (X m b) (codes_entered f m (omega arith) X S)

    -- the four pairs at every code of the position
    pub four_entered : (f g : ℕ → Cell) → ((c : ℕ) → c < P → OwnCell (f c)) → ((c : ℕ) → c < P → g c ≡ least_of (λ j. way_by next (h c j) (l c j)) 4 (f c)) → Entering G pos K (placed base P L f) i Ended Did
        → Entering G pos K (placed base P L g) i Ended (DidTo base pair Did P 0)
    four_entered f g X e S = rw (placed_same base P L (done (λ c j. way_by next (h c j) (l c j)) f P) g (λ d k. e d k ∙ sym (done_below (λ c j. way_by next (h c j) (l c j)) f P d k))) at (codes_entered f P (omega arith) X S)
