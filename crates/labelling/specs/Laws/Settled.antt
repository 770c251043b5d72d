-- A position that was settled is done, over the costs that cells stand for: settling works on the two numbers of a label, high with its last byte,
-- and these are the costs packed. Nothing is lost by packing where every cost is short.
use Rattle.std.specs.Prelude.{◌≡◌, ◌∷◌, ◌≢◌, ◌+◌, ◌*◌, ◌/◌, ◌%◌, ◌<◌}
use Rattle.basics.specs.Words.{refl, sym, ◌∙◌, ap, ap₂, subst, List, Option, none, some, Option·none-ne-some, inl, inr, ℕ, arith, length, get_or, dec_lt}
use Rattle.machine.specs.declared.Pair.{Pair}
use Rattle.card.specs.Card.{machines_of}
use Rattle.paths.specs.Total.{Upto}
use Rattle.paths.specs.Costs.{Costs, Labels, AtMost}
use Rattle.paths.specs.Ranked.{Ranked, add, Less, ranked_costs}
use Rattle.paths.specs.Pigeonhole.{Distinct}
use Rattle.paths.specs.Graph.{Alphabet, Edge, Graph, nodes, Run}
use Rattle.paths.specs.Labels.{ClosedAt, Held, Attained, held→run}
use Rattle.paths.specs.Positions.{Positioned, Entered, Done}
use Rattle.product.specs.ProductGraph.{pairs}
use Rattle.product.specs.Setting.{position_of, Setting}
use Rattle.product.specs.Laws.Edges.{edge_of}
use Rattle.product.specs.Laws.Letters.{OverSets, over_positioned, part_over, priced_over}
use Rattle.product.specs.Laws.Setting.{few_codes, node_inside}
use Rattle.cells.specs.declared.Cell.{Cell}
use Rattle.cells.specs.Cells.{nowhere}
use Rattle.cells.specs.Labels.{cell_at}
use Rattle.cells.specs.Trying.{label_from, cell_price}
use Rattle.cells.specs.Laws.Trying.{label_there, label_none as no_label}
use Rattle.cells.specs.Laws.Position.{placed, placed_in, placed_before, placed_after}
use Rattle.settling.specs.Labels.{label_of, label_from as numbersLabel}
use Rattle.settling.specs.Insertions.{Lists, code_in, insertion_at, insertions}
use Rattle.settling.specs.Settling.{Settled}
use Rattle.settling.specs.Packing.{Packing, packed_edge, packed_path, Packs, packed_graph, packs}
use Rattle.settling.specs.WeightedPacking.{weighted_packing}
use Rattle.settling.proofs.Labels.{label_some, label_none, label_is, label_at}
use Rattle.settling.proofs.Insertions.{is_insertion}
use Rattle.settling.proofs.Packing.{unpacked_attained, unpacked_closed}
use Rattle.settling.proofs.PositionDone.{Tied, Holds, settled_done}
use Rattle.entering.specs.Entering.{cell_graph, Position}

-- ---- packing where every cost is short

module _ {costs : Costs} (K : Packing costs) where
  open costs use {Cost, ◌≺◌}

  -- the cost that was packed
  pub record PathOf (o : Option Cost) (x : Ranked 1) : Type 0 where
    pub cost : Cost
    pub is : o ≡ some cost
    pub packed_is : K.path cost ≡ x

  pub path_of : (o : Option Cost) (x : Ranked 1) → packed_path K o ≡ some x → PathOf o x
  path_of none x h = absurd (Option·none-ne-some x h)
  path_of (some c) x h = record { cost = c; is = refl; packed_is = cc (h) }

  abbrev pub edge_by : Edge Cost → Edge (Ranked 1)
  edge_by e = record { target = e.target; cost = K.edge e.cost }

  pub record PackedFrom (o : Option (Edge Cost)) (f : Edge (Ranked 1)) : Type 0 where
    pub edge : Edge Cost
    pub is : o ≡ some edge
    pub packed_is : edge_by edge ≡ f

  pub packed_from : (o : Option (Edge Cost)) (f : Edge (Ranked 1)) → packed_edge K o ≡ some f → PackedFrom o f
  packed_from none f h = absurd (Option·none-ne-some f h)
  packed_from (some e) f h = record { edge = e; is = refl; packed_is = cc (h) }

  -- no label stays none
  pub none_packed : (o : Option Cost) → packed_path K o ≡ none → o ≡ none
  none_packed none h = refl
  none_packed (some c) h = absurd (Option·none-ne-some (K.path c) (sym h))

  module _ {alphabet : Alphabet} (G : Graph costs alphabet) (H : Graph (ranked_costs 1) alphabet) (X : Packs K G H) where
    open alphabet use {Letter}

    module _ (short : (c : Cost) → K.Short c) where
      -- at most stays at most
      packed_most : {o : Option Cost} {c : Cost} → AtMost ◌≺◌ o c → AtMost (Less 1) (packed_path K o) (K.path c)
      packed_most {o} {c} m = record { val = K.path m.val; is = ap (packed_path K) m.is; upto = go m.upto }
        where
          go : Upto ◌≺◌ m.val c → Upto (Less 1) (K.path m.val) (K.path c)
          go (inl h) = inl (K.less m.val c (short m.val) (short c) h)
          go (inr e) = inr (ap K.path e)

      -- ---- forward

      module _ (L : Labels costs) where
        packed_held : {u : ℕ} {ps : List Letter} {c : Cost} → Held G L u ps c → Held H (λ u. packed_path K (L u)) u ps (K.path c)
        packed_held (Held.halt {u} h m) = Held.halt (X.endings u ∙ ap (packed_path K) h) (packed_most m)
        packed_held (Held.step {u} {p} e d h r q m) = Held.step (edge_by e) (K.path d) (X.edges u p ∙ ap (packed_edge K) h) (packed_held r) (ap K.path q ∙ K.sum e.cost d) (packed_most m)

        -- and passes the same nodes
        packed_nodes : {u : ℕ} {ps : List Letter} {c : Cost} → Held G L u ps c → nodes G u ps ≡ nodes H u ps
        unfolding nodes
        packed_nodes (Held.halt h m) = refl
        packed_nodes (Held.step {u} {p} e d h r q m) =
            let k : H.edge u p ≡ some (edge_by e) = X.edges u p ∙ ap (packed_edge K) h in
            rw (h, k) (ap (λ (l : List ℕ). u ∷ l) (packed_nodes r))

        pub packed_attained : Attained G L → Attained H (λ u. packed_path K (L u))
        packed_attained A u x l =
            let k = path_of (L u) x l in
            let a = A u k.cost k.is in
            record {
              letters = a.letters;
              held = subst (λ (x : Ranked 1). Held H (λ u. packed_path K (L u)) u a.letters x) k.packed_is (packed_held a.held);
              distinct = subst (λ (l : List ℕ). Distinct l) (packed_nodes a.held) a.distinct;
            }

        packed_ends : (u : ℕ) → ((c : Cost) → G.ending u ≡ some c → AtMost ◌≺◌ (L u) c) → (x : Ranked 1) → H.ending u ≡ some x → AtMost (Less 1) (packed_path K (L u)) x
        packed_ends u f x h =
            let k = path_of (G.ending u) x (sym (X.endings u) ∙ h) in
            subst (λ (x : Ranked 1). AtMost (Less 1) (packed_path K (L u)) x) k.packed_is (packed_most (f k.cost k.is))

        packed_edges : (u : ℕ) (p : Letter) (f : Edge (Ranked 1)) (x : Ranked 1) → H.edge u p ≡ some f → packed_path K (L f.target) ≡ some x
            → ((e : Edge Cost) (d : Cost) → e.target ≡ f.target → G.edge u p ≡ some e → L e.target ≡ some d → AtMost ◌≺◌ (L u) (costs.◌⊕◌ e.cost d))
            → AtMost (Less 1) (packed_path K (L u)) (add 1 f.cost x)
        packed_edges u p f x h l g =
            let k = packed_from (G.edge u p) f (sym (X.edges u p) ∙ h) in
            let t : k.edge.target ≡ f.target = ap (λ (f : Edge (Ranked 1)). f.target) k.packed_is in
            let d = path_of (L f.target) x l in
            let q : K.path (costs.◌⊕◌ k.edge.cost d.cost) ≡ add 1 f.cost x = K.sum k.edge.cost d.cost ∙ (λ i. add 1 (k.packed_is i).cost (d.packed_is i)) in
            subst (λ (x : Ranked 1). AtMost (Less 1) (packed_path K (L u)) x) q (packed_most (g k.edge d.cost t k.is (ap L t ∙ d.is)))

        pub packed_closed : (u : ℕ) → ClosedAt G L u → ClosedAt H (λ u. packed_path K (L u)) u
        packed_closed u C = record { ends = packed_ends u C.ends; edges = λ p f x h l. packed_edges u p f x h l (λ e d t k m. C.edges p e d k m) }

        pub packed_entered : {pos : ℕ → ℕ} {i : ℕ} → Entered G pos L i → Entered H pos (λ u. packed_path K (L u)) i
        packed_entered {pos} E = record {
          attained = packed_attained E.attained;
          closed = λ u h. packed_closed u (E.closed u h);
          blank = λ u h. ap (packed_path K) (E.blank u h);
          ends = λ u x a. packed_ends u (λ c h. E.ends u c a h) x;
          leaving = λ u p f x a b h l. packed_edges u p f x h l (λ e d t k m. E.leaving u p e d a (λ q. b (ap pos (sym t) ∙ q)) k m);
        }

      -- ---- and back

      pub unpacked_done : {M : Labels costs} {pos : ℕ → ℕ} {i : ℕ} → Done H pos (λ u. packed_path K (M u)) i → Done G pos M i
      unpacked_done {M} D = record {
        attained = unpacked_attained K G H X M (λ u. packed_path K (M u)) (λ u. refl) (λ u c l. short c) (λ u ps c d l r n. short c) D.attained;
        closed = λ u h. unpacked_closed K G H X M (λ u. packed_path K (M u)) (λ u. refl) (λ u c l. short c) u (λ c e. short c) (λ p e d k l. short (costs.◌⊕◌ e.cost d)) (D.closed u h);
        blank = λ u h. none_packed (M u) (D.blank u h);
      }

-- ---- the product, its costs as the numbers of labels

pub pair_counted : (ws card sets : List ℕ) (u : ℕ) (p : Pair) (e : Edge (Ranked 1)) → (cell_graph ws card sets).edge u p ≡ some e → 0 < (weighted_packing.edge e.cost).1
unfolding weighted_packing
pair_counted ws card sets u p e h = omega (arith, ap (λ (c : Ranked 1). c.1) (edge_of (cell_price ws) sets (machines_of card) u p e h).cost_is)

-- high numbers have their last byte: 0 of an edge, 255 at a path's end
abbrev pub number_graph : (ws card sets : List ℕ) → Graph (ranked_costs 1) pairs
number_graph ws card sets = packed_graph weighted_packing (cell_graph ws card sets) (pair_counted ws card sets)

pub number_packs : (ws card sets : List ℕ) → Packs weighted_packing (cell_graph ws card sets) (number_graph ws card sets)
number_packs ws card sets = packs weighted_packing (cell_graph ws card sets) (pair_counted ws card sets)

all_short : (c : Ranked 1) → weighted_packing.Short c
unfolding weighted_packing
all_short c = tt

module _ (ws : List ℕ) {card sets : List ℕ} {P : ℕ} (s : Setting card sets P) where
  pub number_over : OverSets (number_graph ws card sets) card sets
  number_over =
      part_over (priced_over (cell_price ws) card sets s.accepted)
      (λ u p f h. let k = packed_from weighted_packing ((cell_graph ws card sets).edge u p) f h in (k.edge, k.is, ap (λ (f : Edge (Ranked 1)). f.target) k.packed_is))
      (λ u x h. let k = path_of weighted_packing ((cell_graph ws card sets).ending u) x h in (k.cost, k.is))

  pub number_positioned : Positioned (number_graph ws card sets) (position_of card) (length sets)
  number_positioned = over_positioned number_over

-- ---- a cell as a label and as its numbers

pub cell_numbers : (x : Cell) → (x.high < nowhere → x.high % 256 ≡ 255) → packed_path weighted_packing (label_from x) ≡ numbersLabel x.high x.low
unfolding weighted_packing
cell_numbers x last = go (dec_lt x.high nowhere)
  where
    go : Dec (x.high < nowhere) → packed_path weighted_packing (label_from x) ≡ numbersLabel x.high x.low
    go (yes h) =
        let e : x.high / 256 * 256 + 255 ≡ x.high = omega (arith, last h) in
        ap (packed_path weighted_packing) (label_there x h)
        ∙ ap {B = Option (Ranked 1)} (λ (n : ℕ). some (n, x.low)) e
        ∙ sym (label_some x.high x.low h)
    go (no h) = ap (packed_path weighted_packing) (no_label x (omega arith)) ∙ sym (label_none x.high x.low (omega arith))

pub label_cell : (own : List ℕ) (c : ℕ) → length own ≡ 256 → c < 128 → label_of own c ≡ numbersLabel (cell_at own c).high (cell_at own c).low
label_cell own c z h =
    let e : 2 * c ≡ c * 2 = omega arith in
    label_at own c (omega arith) ∙ ap₂ numbersLabel (ap (λ (n : ℕ). get_or own n 0) e) (ap (λ (n : ℕ). get_or own (n + 1) 0) e)

-- ---- a settled position

module _ (ws : List ℕ) {card sets : List ℕ} {P i : ℕ} (s : Setting card sets P) {N : Lists} (F : Tied (number_graph ws card sets) (position_of card) i N (i * P) P)
    {own own' : List ℕ} (A : Position own P) (size : length own' ≡ 256) (S : Settled N own own') where
  -- an insertion leaves the last byte as it is
  insertion_whole : (u : ℕ) (p : ℕ × ℕ) (e : Edge (Ranked 1)) → insertion_at N u p ≡ some e → e.cost.0 % 256 ≡ 0
  unfolding weighted_packing
  insertion_whole u p e h =
      let k = is_insertion N u p e h in
      let E = F.edges p.0 p.1 k.place in
      let f = packed_from weighted_packing ((cell_graph ws card sets).edge (i * P + code_in (get_or N.entries p.1 0)) E.letter) E.to E.edge_is in
      let q : f.edge.cost.0 * 256 ≡ e.cost.0 = ap (λ (f : Edge (Ranked 1)). f.cost.0) f.packed_is ∙ ap (λ (c : Ranked 1). c.0) E.cost_is ∙ ap (λ (f : Edge (Ranked 1)). f.cost.0) k.is in
      omega (arith, q)

  -- so a path by insertions that ends with a label has the last byte of labels
  last_byte : {u : ℕ} {ps : List (ℕ × ℕ)} {x : Ranked 1} → u < P → Run (insertions N (label_of own)) u ps x → x.0 % 256 ≡ 255
  last_byte b (Run.halt {u} {c} h) =
      let q = label_is (cell_at own u).high (cell_at own u).low c (sym (label_cell own u A.size (omega (arith, few_codes s))) ∙ h) in
      omega (arith, ap (λ (c : Ranked 1). c.0) q, (A.labels u b).last)
  last_byte b (Run.step {u} {p} e d h r q) =
      let k = is_insertion N u p e h in
      let t : e.target < P = subst (λ (e : Edge (Ranked 1)). e.target < P) k.is (F.to_below p.0 p.1 k.place) in
      omega (arith, ap (λ (c : Ranked 1). c.0) q, insertion_whole u p e h, last_byte t r)

  pub settled_last : (c : ℕ) → c < P → (cell_at own' c).high < nowhere → (cell_at own' c).high % 256 ≡ 255
  settled_last c b h =
      let l = label_cell own' c size (omega (arith, few_codes s)) ∙ label_some (cell_at own' c).high (cell_at own' c).low h in
      last_byte b (held→run (insertions N (label_of own)) (S.attained c ((cell_at own' c).high, (cell_at own' c).low) l).held)

  -- a position that was entered is done
  module _ (L : Labels (ranked_costs 1)) where
    -- the labels of the position's cells, as numbers
    holds : (xs : List ℕ) → length xs ≡ 256 → ((c : ℕ) → c < P → (cell_at xs c).high < nowhere → (cell_at xs c).high % 256 ≡ 255) → Holds xs (λ w. packed_path weighted_packing (placed (i * P) P L (cell_at xs) w)) (i * P) P
    holds xs z last j b =
        ap (packed_path weighted_packing) (placed_in (i * P) P L (cell_at xs) j b)
        ∙ cell_numbers (cell_at xs j) (last j b)
        ∙ sym (label_cell xs j z (omega (arith, few_codes s)))

    elsewhere : (w : ℕ) → position_of card w ≢ i → placed (i * P) P L (cell_at own') w ≡ placed (i * P) P L (cell_at own) w
    elsewhere w n = go (dec_lt w (i * P)) (dec_lt w (i * P + P))
      where
        go : Dec (w < i * P) → Dec (w < i * P + P) → placed (i * P) P L (cell_at own') w ≡ placed (i * P) P L (cell_at own) w
        go (yes a) b = placed_before (i * P) P L (cell_at own') w a ∙ sym (placed_before (i * P) P L (cell_at own) w a)
        go (no a) (no b) = placed_after (i * P) P L (cell_at own') w (omega arith) ∙ sym (placed_after (i * P) P L (cell_at own) w (omega arith))
        go (no a) (yes b) = absurd (n (node_inside s w i (omega arith) b))

    pub settled_position : Entered (cell_graph ws card sets) (position_of card) (placed (i * P) P L (cell_at own)) i → Done (cell_graph ws card sets) (position_of card) (placed (i * P) P L (cell_at own')) i
    settled_position E =
        unpacked_done weighted_packing (cell_graph ws card sets) (number_graph ws card sets) (number_packs ws card sets) all_short
        (settled_done (number_graph ws card sets) (position_of card) F own own' S
        (holds own A.size (λ c b h. (A.labels c b).last))
        (holds own' size settled_last)
        (λ w n. ap (packed_path weighted_packing) (elsewhere w n))
        (number_positioned ws s)
        (packed_entered weighted_packing (cell_graph ws card sets) (number_graph ws card sets) (number_packs ws card sets) all_short (placed (i * P) P L (cell_at own)) E))
